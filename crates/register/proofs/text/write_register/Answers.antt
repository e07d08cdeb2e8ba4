-- `write_register` meets its contract: the number decides.
use Rattle.register.specs.RegisterLaws.{register_accepted, register_refused}
use Rattle.register.proofs.text.write_register.Goals as goal

pub returns-then-number-ne0 : goal.returns-then-number-ne0
returns-then-number-ne0 c = let r = c.args.run in rw (register_refused _ r.found r.looked r.rows r.n r.listed.now r.looks.now c.if-number-ne0.true) c.write_refused.ensures

pub returns : goal.returns
returns c = let r = c.args.run in rw (register_accepted _ r.found r.looked r.rows r.n r.listed.now r.looks.now c.if-number-ne0.false) c.write_accepted.ensures
