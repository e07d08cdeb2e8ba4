-- What a trace tells: its predicates are those that are due, its outcomes are true, and it determines the value.
use Rattle.std.specs.Prelude.{ℕ, ◌≡◌, Bool, ◌||◌, ◌↔◌, ◌⊎◌, eqb}
use Rattle.std.proofs.Math.Path.{refl}
use Rattle.std.proofs.Common.{sym, ap, ◌∙◌, subst}
use Rattle.std.proofs.Math.Bool.{true, false, or-false, or_assoc}
use Rattle.std.proofs.Math.Logic.{inl, inr}
use mathlib.Core.List.{List, [], ◌∷◌, ◌++◌}
use Rattle.strategy.specs.Assignment.{Assignment, Among, elem, Once, keep_if}
use Rattle.strategy.specs.Strategy.{Formula, Due, State, predicates}
use Rattle.strategy.specs.Trace.{due, trace}
use Rattle.strategy.proofs.DueLaws.{due_law}
use Rattle.strategy.specs.Fixing.{ReadsOnly}
use Rattle.strategy.specs.Ours.{passed_as_no, ours}
use Rattle.strategy.proofs.OursLaws.{ours_trace, ours_right}

-- at each turn the predicate is in the trace, or it is not
module _ (f : Formula) (a : Assignment) where
  trace_keeps : (b : Bool) (c : ℕ) (l : State) (x : ℕ) → Among x (predicates l) → Among x (predicates (keep_if b (c, a c) l))
  unfolding predicates
  trace_keeps true c l x m = inr m
  trace_keeps false c l x m = m

  trace_cases : (b : Bool) (c : ℕ) (l : State) (x : ℕ) → Among x (predicates (keep_if b (c, a c) l)) → ((x ≡ c) × (b ≡ true)) ⊎ Among x (predicates l)
  unfolding predicates
  trace_cases true c l x (inl e) = inl (e, refl)
  trace_cases true c l x (inr m) = inr m
  trace_cases false c l x m = inr m

  -- only predicates of the order
  pub trace_among : (order : List ℕ) (x : ℕ) → Among x (predicates (trace f a order)) → Among x order
  unfolding trace predicates
  trace_among [] x m = m
  trace_among (c ∷ cs) x m =
      let go : ((x ≡ c) × (due f c cs a ≡ true)) ⊎ Among x (predicates (trace f a cs)) → Among x (c ∷ cs) = elim [ inl e ↦ inl e.0 | inr k ↦ inr (trace_among cs x k) ] in
      go (trace_cases (due f c cs a) c (trace f a cs) x m)

  -- none twice
  pub trace_once : (order : List ℕ) → Once order → Once (predicates (trace f a order))
  unfolding trace predicates
  trace_once [] o = tt
  trace_once (c ∷ cs) o = go (due f c cs a) (trace_once cs o.1)
    where
      go : (b : Bool) → Once (predicates (trace f a cs)) → Once (predicates (keep_if b (c, a c) (trace f a cs)))
      go true ih = (λ m. o.0 (trace_among cs c m), ih)
      go false ih = ih

  -- DEMAND 2: a predicate is in the trace exactly if it is due at its turn
  pub trace_due : (before : List ℕ) (c : ℕ) (later : List ℕ) → Once (before ++ (c ∷ later))
      → Among c (predicates (trace f a (before ++ (c ∷ later)))) ↔ Due f c later a
  unfolding trace predicates
  trace_due [] c later o = (λ m. to (trace_cases (due f c later a) c (trace f a later) c m), λ D. rw ((due_law f c later a).1 D) (inl refl))
    where
      to : ((c ≡ c) × (due f c later a ≡ true)) ⊎ Among c (predicates (trace f a later)) → Due f c later a
      to (inl e) = (due_law f c later a).0 e.1
      to (inr m) = absurd (o.0 (trace_among later c m))
  trace_due (b ∷ bs) c later o =
      let ih = trace_due bs c later o.1 in (
        λ m. to ih.0 (trace_cases (due f b (bs ++ (c ∷ later)) a) b (trace f a (bs ++ (c ∷ later))) c m),
        λ D. trace_keeps (due f b (bs ++ (c ∷ later)) a) b (trace f a (bs ++ (c ∷ later))) c (ih.1 D),
      )
    where
      there : (bs : List ℕ) → Among c (bs ++ (c ∷ later))
      there [] = inl refl
      there (x ∷ xs) = inr (there xs)

      to : (Among c (predicates (trace f a (bs ++ (c ∷ later)))) → Due f c later a)
          → ((c ≡ b) × (due f b (bs ++ (c ∷ later)) a ≡ true)) ⊎ Among c (predicates (trace f a (bs ++ (c ∷ later)))) → Due f c later a
      to ih (inl e) = absurd (o.0 (subst (λ x. Among x (bs ++ (c ∷ later))) e.0 (there bs)))
      to ih (inr m) = ih m

-- one probe more in a state, as a test
pub elem_last : (d : ℕ) (s : State) (c : ℕ) (v : Bool) → elem d (predicates (s ++ ((c, v) ∷ []))) ≡ (elem d (predicates s) || eqb d c)
unfolding elem predicates
elem_last d [] c v = or-false (eqb d c)
elem_last d (x ∷ s) c v = ap (λ b. eqb d x.0 || b) (elem_last d s c v) ∙ sym (or_assoc (eqb d x.0) (elem d (predicates s)) (eqb d c))

-- the trace determines the value: it is what the formula gives with everything else taken as no
pub trace_value : (f : Formula) (order : List ℕ) → Once order → ReadsOnly f order → (a : Assignment) → f (passed_as_no (trace f a order)) ≡ f a
unfolding ours
trace_value f order o v a = ap (λ s. f (passed_as_no s)) (sym (ours_trace f order o v a)) ∙ ours_right f order o v a

-- so two rows with one trace have one value
pub trace_tells : (f : Formula) (order : List ℕ) → Once order → ReadsOnly f order → (a b : Assignment) → trace f a order ≡ trace f b order → f a ≡ f b
trace_tells f order o v a b e = sym (trace_value f order o v a) ∙ ap (λ s. f (passed_as_no s)) e ∙ trace_value f order o v b
