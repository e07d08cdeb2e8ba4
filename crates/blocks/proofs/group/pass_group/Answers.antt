-- `pass_group` meets its contract: by `unchanged_passed` where the group is settled at no row, else by `group_passed`.
use Rattle.ancestors.specs.Ancestors.{ancestor_of}
use Rattle.blocks.proofs.Groups.{group_passed, none_end, out_end, part_length, unchanged_passed}
use Rattle.std.proofs.Common.{arith, ◌+◌, ◌-◌, ◌≡◌}
use Rattle.blocks.proofs.group.pass_group.Goals as goal

pub returns-then-settled-eq0 : goal.returns-then-settled-eq0
returns-then-settled-eq0 c =
    let a = c.args in
    let g = a.group in
    let s = c.settled_rows-settled in
    let z : g.first + g.count - g.first ≡ g.count = omega arith in
    unchanged_passed (ancestor_of g) a.active a.met s.result a.live.now s.ensures
    c.still_active.result c.if-settled-eq0.true
    (none_end g.first g.count _ _ _ (rw (z, part_length g.first g.count a.live.now c.requires) at c.still_active.ensures))

pub returns : goal.returns
returns c =
    let a = c.args in
    let g = a.group in
    let s = c.settled_rows-settled in
    let t = c.take_out-left in
    let z : g.first + g.count - g.first ≡ g.count = omega arith in
    let taken = rw (z, part_length g.first g.count a.live.now c.requires) at t.ensures in
    group_passed (ancestor_of g) a.active a.met s.result a.live.now s.ensures
    t.result c.minus.result _ (rw z (out_end g.first g.count _ _ a.live.now t.new.words c.requires taken)) c.minus.ensures
