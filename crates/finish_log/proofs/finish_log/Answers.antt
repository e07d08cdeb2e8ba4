-- `finish_log` meets its contract: refused before anything is written, or the fields of all probes.
use Rattle.fields.proofs.Parts.{part_rest}
use Rattle.finish_log.proofs.Finishing.{log_room, log_short, log_written, looks_few, marks_whole, size_short}
use Rattle.finish_log.proofs.Halves.{first_length, half, probes_of}
use Rattle.std.proofs.Common.{arith}
use Rattle.finish_log.proofs.finish_log.Goals as goal

pub invariant_of-lines : goal.invariant_of-lines
invariant_of-lines c =
    let M = c.requires.2 in
    let few = M.few in
    let s = M.size in
    record { inside = (size_short M c.bytes_for.ensures, omega arith) }

pub count_whole_lines-looked-requires : goal.count_whole_lines-looked-requires
count_whole_lines-looked-requires c = let M = c.requires.2 in let s = M.size in (omega arith, marks_whole M c.bytes_for.ensures)

pub overflow_mul-size : goal.overflow_mul-size
overflow_mul-size c = omega (arith, looks_few c.args.n c.count_whole_lines-looked.result c.requires.2.few c.count_whole_lines-looked.ensures.1)

pub returns-then-output-size : goal.returns-then-output-size
returns-then-output-size c = log_short c.bytes_for.ensures c.count_whole_lines-looked.ensures.0 c.args.output.now c.if-output-size.true

pub slice_bounds-probes-end : goal.slice_bounds-probes-end
slice_bounds-probes-end c =
    let s = c.requires.2.size in
    first_length c.args.marks.now (omega arith)

-- each half has a line for each turn
pub invariant_of-probes : goal.invariant_of-probes
invariant_of-probes c =
    let P = probes_of c.requires.2 in
    record { lines = P.lines; met_lines = rw (part_rest c.args.marks.now half) P.met_lines }

pub put_rows-requires : goal.put_rows-requires
put_rows-requires c =
    rw (part_rest c.args.marks.now half) (log_room c.bytes_for.ensures c.count_whole_lines-looked.ensures.0 c.args.output.now c.if-output-size.false c.requires)

pub returns : goal.returns
returns c =
    log_written c.bytes_for.ensures c.count_whole_lines-looked.ensures.0 c.args.output.now c.if-output-size.false
    (rw (part_rest c.args.marks.now half) at c.put_rows.ensures)
