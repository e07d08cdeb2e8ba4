-- what was read of each file stands at the front of its space, and the register at the front of the output
use Rattle.std.proofs.Common.{ℕ, ◌≤◌, ◌≡◌, arith}
use Rattle.consult.specs.Prints.{of_files}
use Rattle.consult.proofs.consult.Goals as goal

-- a part of so many bytes as were read, in a space that keeps its length
part_short : {n m space limit : ℕ} → n ≡ m → n ≤ space → space ≡ limit → m ≤ limit
part_short e l k = omega arith

pub returns-clause-prints : goal.returns-clause-prints
returns-clause-prints g c =
    let read = c.in-Some-Some-Some in
    let catalogue = rw read.is-0 at c.read_file-first.ensures in
    let question = rw read.is-1 at c.read_file-second.ensures in
    let order = rw read.is-2 at c.read_file-third.ensures in
    let print = c.write_consultation.ensures in
    of_files _ _ _ print.1 print.2
    (part_short catalogue.1 catalogue.0 c.read_file-first.auto.space)
    (part_short question.1 question.0 c.read_file-second.auto.space)
    (part_short order.1 order.0 c.read_file-third.auto.space)
    print.0
