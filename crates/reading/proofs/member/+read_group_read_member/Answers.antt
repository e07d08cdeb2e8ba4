-- `read_group` and `read_member` meet their contracts: each path is a law of a reading.
use Rattle.std.proofs.Common.{arith, refl}
use Rattle.std.proofs.lemmas.Result.{err_from_is_err_and}
use Rattle.query.specs.Format.{depth_of}
use Rattle.reading.specs.Tables.{tables}
use Rattle.reading.proofs.Progress.{deeper_by_one, group_within, in_group_end, in_group_more, in_group_refused, leaf_within, member_group, member_group_refused, member_leaf, member_refused}
use Rattle.reading.proofs.member.+read_group_read_member.Goals as goal

pub read_group-returns-in_err-read : goal.read_group-returns-in_err-read
read_group-returns-in_err-read t c =
    let a = c.args in
    let l = c.loop-read in
    let m = c.read_member.new in
    let p = err_from_is_err_and c.from_residual.result c.from_residual.ensures.1 in
    rw (p.1, p.2) (in_group_refused _ _ _ a.end a.allowed _ l.read.at l.read.n a.found.now l.found l.invariant
    m.found (omega arith) _ c.in_err-read.ensures)

pub read_group-loop-read-preserved : goal.read_group-loop-read-preserved
read_group-loop-read-preserved t c =
    let a = c.args in
    let l = c.loop-read in
    let m = c.read_member.new in
    let r = l.invariant.room in
    in_group_more _ _ _ a.end a.allowed _ l.read.at l.read.n a.found.now l.found l.invariant
    m.found (omega arith) _ _ c.in_ok-read.ensures

pub read_group-returns : goal.read_group-returns
read_group-returns t c =
    let a = c.args in
    let l = c.loop-read in
    in_group_end _ _ _ a.end a.allowed _ l.read.at l.read.n a.found.now l.found l.invariant (omega arith)

pub read_member-returns-in_err-field : goal.read_member-returns-in_err-field
read_member-returns-in_err-field t c =
    let a = c.args in
    let T = a.found.now in
    let p = err_from_is_err_and c.from_residual.result c.from_residual.ensures.1 in
    rw (p.1, p.2) (record {
      within = tt;
      exact = member_refused _ _ a.at a.end (depth_of a.allowed) a.n T T _ c.read_field.ensures.exact _ c.in_err-field.was;
    })

pub read_member-returns-in-Leaf : goal.read_member-returns-in-Leaf
read_member-returns-in-Leaf t c =
    let a = c.args in
    let p = c.requires in
    let w = rw c.in-Leaf.is at c.in_ok-field.ensures.sound in
    record {
      within =
          leaf_within a.tags.now a.q.now a.at a.end (depth_of a.allowed) a.n a.found.now.offsets a.found.now.ancestors _ _ w.0 w.5 w.1
          (omega (arith, p.located.sized)) (omega (arith, p.ancestors)) p.low w.2 p.inside w.3 (omega arith) p.located.each p.spans
          (record { offsets = p.located.sized; ancestors = p.ancestors });
      exact =
          member_leaf a.tags.now a.q.now a.at a.end (depth_of a.allowed) a.n a.found.now.offsets a.found.now.ancestors _ _ w.0 w.5 w.1
          (omega (arith, p.located.sized)) (omega (arith, p.ancestors)) p.low _ c.read_field.ensures.exact (rw c.in-Leaf.is at c.in_ok-field.was);
    }

pub read_member-returns-in_err-read-in-Group : goal.read_member-returns-in_err-read-in-Group
read_member-returns-in_err-read-in-Group t c =
    let a = c.args in
    let g = c.read_group.new in
    let w = rw c.in-Group.is at c.in_ok-field.ensures.sound in
    let deeper = deeper_by_one a.allowed w.3 c.requires.deep in
    let read = c.in_err-read-in-Group.ensures in
    let p = err_from_is_err_and c.from_residual-in_err-read-in-Group.result c.from_residual-in_err-read-in-Group.ensures.1 in
    rw (p.1, p.2) (record {
      within = tt;
      exact =
          member_group_refused _ _ a.at a.end (depth_of a.allowed) a.n a.found.now g.found
          _ c.read_field.ensures.exact _ _ _ (rw c.in-Group.is at c.in_ok-field.was) w.0 w.1 w.2 _ deeper _ read.exact;
    })

pub read_member-returns-in_ok-read-in-Group : goal.read_member-returns-in_ok-read-in-Group
read_member-returns-in_ok-read-in-Group t c =
    let a = c.args in
    let g = c.read_group.new in
    let k = c.close_group in
    let w = rw c.in-Group.is at c.in_ok-field.ensures.sound in
    let deeper = deeper_by_one a.allowed w.3 c.requires.deep in
    let read = c.in_ok-read-in-Group.ensures in
    record {
      within =
          group_within a.q.now a.at a.end (depth_of a.allowed) _ a.n _ _ _ _ c.in-Group.tag a.found.now
          g.found.offsets g.found.ancestors k.new.ancestors w.0 w.2 deeper read.within k.ensures k.auto.ancestors;
      exact =
          member_group _ _ a.at a.end (depth_of a.allowed) a.n a.found.now g.found
          _ c.read_field.ensures.exact _ _ _ (rw c.in-Group.is at c.in_ok-field.was) w.0 w.1 w.2 _ deeper _ _ (tables g.found.offsets k.new.ancestors) read.exact refl k.ensures;
    }
