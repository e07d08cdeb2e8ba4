-- `close_group` meets its contract: the next predicate gets its ancestor, by `closed_more`.
use Rattle.ancestors.proofs.AncestorLaws.{closed_more}
use Rattle.ancestors.specs.Ancestors.{Closable, Closed, height_at}
use Rattle.query.specs.Format.{depth_limit, predicate_limit}
use Rattle.std.proofs.Common.{ℕ, ◌<◌, ◌≤◌, List, arith, refl}
use Rattle.ancestors.proofs.close_group.Goals as goal

-- inside the loop c is a predicate of the group, with room for one ancestor more
room : {a m c tag : ℕ} {A0 A : List ℕ} → Closable a m A0 → Closed a c m tag A0 A → a ≤ c → c < m → (height_at A c < depth_limit) × (c < predicate_limit)
room {c = c} p k ac cm =
    let s = k.same_after c (omega arith) in
    let u = p.under c ac cm in
    (omega arith, omega (arith, p.few))

pub loop-c-preserved : goal.loop-c-preserved
loop-c-preserved c =
    let a = c.args in
    let l = c.loop-c in
    let h = room c.requires l.invariant (omega arith) (omega arith) in
    closed_more l.ancestors a.a l.c a.m a.tag _ _ refl (omega arith) h.0 (omega arith) _ (omega arith) (omega arith) l.invariant
