-- The page of order 1, proved: one proof for each of its statements, in its order.
use Prim.Native.Nat.{ℕ, ◌+◌, ◌%◌, ◌^◌, ◌<◌}
use native.Mathlib.Omega.{arith}
use mathlib.Core.Path.{◌≡◌, refl, sym, ap, ◌∙◌, subst}
use mathlib.Core.Bool.{Bool, true, false}
use mathlib.Core.Logic.{inl, inr}
use mathlib.Core.List.{List}
use lib.ListN.{length, get_or, drop, length-append, length-drop}
use Rattle.bools.specs.Bools.{clash}
use Rattle.predicate.specs.Meaning.{outcome}
use Rattle.strategy.specs.Order.{occurrences}
use Rattle.bitmaps.specs.Sums.{digit}
use Rattle.task.specs.Task.{predicate_at, is_probed}
use Rattle.task.specs.Input.{Input}
use Rattle.answers.specs.Answers.{outcome_number}
use Rattle.demands.specs.Run.{Request, row_count, task_of}
use Rattle.demands.specs.Demands.{LookMade}
use Rattle.demands.specs.Log.{outcome_number_at, task_fields, LogGives}
use Rattle.demands.specs.CopyPage.{copy_bytes, CopyKept, CopyBroken, CopyNumber, CopyRefused, CopyAccepted, CopyLength, CopyAnySequence, CopyMost, CopyFurther}
use Rattle.demands.specs.CopyPage.{looks_of, look_field, field_bytes, CopyFieldThere, CopyBlank, CopyFieldOnce, CopyAscends, CopyLooks}
use Rattle.demands.proofs.DemandBlanks.{blank_at}
use Rattle.demands.proofs.DemandTables.{front_old, front_line, probed_made, look_count_le}
use Rattle.demands.proofs.Demands.{demand_2_looks}
use Rattle.demands.proofs.CopyTables.{sequence_count, sequence_length}
use Rattle.demands.proofs.CopyBytes.{field_plain, field_parts, fields_before, FieldAt, field_before, field_ascends, field_of_lem, log_cut, place_made, made_place, place_alone}
use Rattle.demands.proofs.CopyRuns.{Cases, copy_cases, broken_number, kept_order, kept_room, kept_output, kept_sequence, kept_gives, broken_output, broken_gives}

pub copy_number : CopyNumber
copy_number r old new w L bytes e p = (λ h. go h (copy_cases r old bytes), λ x. (broken_gives L e x).1)
  where
    go : w % 2 ^ 8 ≡ e → Cases r old → CopyBroken r old e
    go h (inl x) = absurd (omega (arith, (kept_gives L x.0 x.1).1))
    go h (inr x) = subst (λ (k : ℕ). CopyBroken r old k) (sym (broken_gives L x.0 x.1).1 ∙ h) x.1

pub copy_refused : CopyRefused
copy_refused r old new w L e x = (broken_gives L e x, broken_output L e x)

pub copy_accepted : CopyAccepted
copy_accepted r old new w L bytes = (λ h. go h (copy_cases r old bytes), λ x. (kept_gives L x.0 x.1).1)
  where
    go : w % 2 ^ 8 ≡ 0 → Cases r old → (i : Input) × CopyKept r old i
    go h (inl x) = x
    go h (inr x) = absurd (omega (arith, (broken_gives L x.0 x.1).1, broken_number r old x.0 x.1))

pub copy_length : CopyLength
copy_length r old new w L i k = kept_gives L i k

pub copy_any_sequence : CopyAnySequence
copy_any_sequence r i o s each = sequence_length i r.order o s (λ e m c. go e c m (is_probed (task_of i r.order) c e) refl)
  where
    go : (e c : ℕ) → e < row_count i → (b : Bool) → is_probed (task_of i r.order) c e ≡ b → occurrences c (s e) ≡ digit b
    go e c m true y = (each e c m).0 ((probed_made i r.order o c e).0 y)
    go e c m false y = (each e c m).1 (λ D. clash ((probed_made i r.order o c e).1 D) y)

pub copy_most : CopyMost
copy_most r i f = omega (arith, look_count_le i r.order 2048 f.0.0.rows_few, f.1.0.few)

-- the fields written take the bytes that the word says
written : {r : Request} {old new : List ℕ} {w : ℕ} (L : LogGives r old w new) (i : Input) → CopyKept r old i
    → length (task_fields (task_of i r.order) L.sequence) ≡ copy_bytes i r
written {r} {old} L i k = sequence_length i r.order (kept_order r old i k) L.sequence (kept_sequence L i k)

pub copy_further : CopyFurther
copy_further r old new w L i k =
    let fields : List ℕ = task_fields (task_of i r.order) L.sequence in
    let room = kept_room r old i k in
    rw (kept_output L i k) (
      length-append fields (drop (length fields) old) ∙ omega (arith, length-drop (length fields) old, written L i k),
      front_old fields old (copy_bytes i r) (written L i k),
    )

-- THE BYTES WRITTEN

module _ {r : Request} {old new : List ℕ} {w : ℕ} (L : LogGives r old w new) (i : Input) (k : CopyKept r old i) where
  -- field j of a copy is that of a place of an entry's sequence
  abbrev At : (j e p : ℕ) → Type 0
  At j e p = FieldAt L.sequence (row_count i) j e p

  field_count : fields_before L.sequence (row_count i) ≡ looks_of i r
  field_count = sequence_count i r.order (kept_order r old i k) L.sequence (kept_sequence L i k)

  field_place : (j : ℕ) → j < looks_of i r → (e : ℕ) × (p : ℕ) × At j e p
  field_place j l = field_of_lem (row_count i) j (omega (arith, field_count))

  field_bytes_lem : {j e p : ℕ} → At j e p → field_bytes new j ≡ look_field e (get_or (L.sequence e) p 0) (outcome_number_at (task_of i r.order) e (get_or (L.sequence e) p 0))
  field_bytes_lem {j} {e} {p} F =
      let few = k.forms.0.0.rows_few in
      rw (kept_output L i k)
      (front_line (task_fields (task_of i r.order) L.sequence) old 7 (looks_of i r) j (omega (arith, written L i k)) (omega (arith, field_count, field_before F))
      ∙ log_cut (outcome_number_at (task_of i r.order)) (row_count i) F
      ∙ field_plain e (get_or (L.sequence e) p 0) (outcome_number_at (task_of i r.order) e (get_or (L.sequence e) p 0)) (omega (arith, F.inside)))

pub copy_field_there : CopyFieldThere
copy_field_there r old new w L i k e c o = (to, from)
  where
    to : (j : ℕ) × (j < looks_of i r) × (field_bytes new j ≡ look_field e c o)
        → (e < row_count i) × LookMade i r.order e c × (o ≡ outcome_number (outcome i.catalogue (predicate_at i.query c) e))
    to (j, l, h) =
        let (e', p, F) = field_place L i k j l in
        let same = field_parts e e' (sym h ∙ field_bytes_lem L i k F) in
        rw (same.0, same.1) (F.inside, place_made i r.order (kept_order r old i k) L.sequence (kept_sequence L i k) F.inside F.within, same.2)

    from : (e < row_count i) × LookMade i r.order e c × (o ≡ outcome_number (outcome i.catalogue (predicate_at i.query c) e))
        → (j : ℕ) × (j < looks_of i r) × (field_bytes new j ≡ look_field e c o)
    from (m, D, h) =
        let (p, l, q) = made_place i r.order (kept_order r old i k) L.sequence (kept_sequence L i k) m D in
        let F : At L i k (fields_before L.sequence e + p) e p = record { inside = m; within = l; place = refl } in
        (fields_before L.sequence e + p, omega (arith, field_count L i k, field_before F), field_bytes_lem L i k F ∙ rw (q, h))

pub copy_blank : CopyBlank
copy_blank r old new w L i k e c = (
  λ f. let (l, D, o) = (copy_field_there r old new w L i k e c 2).0 f in (l, D, (blank_at i e c).0 (sym o)),
  λ (l, D, h). (copy_field_there r old new w L i k e c 2).1 (l, D, sym ((blank_at i e c).1 h)),
)

pub copy_field_once : CopyFieldOnce
copy_field_once r old new w L i k = (some, alone)
  where
    some : (j : ℕ) → j < looks_of i r → (e : ℕ) × (c : ℕ) × (o : ℕ) × (field_bytes new j ≡ look_field e c o)
    some j l =
        let (e, p, F) = field_place L i k j l in
        (e, get_or (L.sequence e) p 0, outcome_number_at (task_of i r.order) e (get_or (L.sequence e) p 0), field_bytes_lem L i k F)

    alone : (j j' : ℕ) → j < looks_of i r → j' < looks_of i r → field_bytes new j ≡ field_bytes new j' → j ≡ j'
    alone j j' l l' h =
        let (e, p, F) = field_place L i k j l in
        let (e', p', G) = field_place L i k j' l' in
        let same = field_parts e e' (sym (field_bytes_lem L i k F) ∙ h ∙ field_bytes_lem L i k G) in
        let q : p ≡ p' =
        place_alone i r.order (kept_order r old i k) L.sequence (kept_sequence L i k) F.inside F.within (rw same.0 G.within) (same.1 ∙ rw same.0) in
        omega (arith, F.place, G.place, ap (fields_before L.sequence) same.0)

pub copy_ascends : CopyAscends
copy_ascends r old new w L i k j j' m l e c o e' c' o' h h' =
    let (x, p, F) = field_place L i k j (omega arith) in
    let (x', p', G) = field_place L i k j' l in
    omega (arith, field_ascends F G m, (field_parts e x (sym h ∙ field_bytes_lem L i k F)).0, (field_parts e' x' (sym h' ∙ field_bytes_lem L i k G)).0)

pub copy_looks : CopyLooks
copy_looks r old new w L i k l same kept e c m n =
    let looks = (demand_2_looks l i kept c n).bits e m in (
      λ (j, o, h, b). looks.1 (rw same ((copy_field_there r old new w L i k e c o).0 (j, h, b)).1),
      λ y. let (j, h, b) = (copy_field_there r old new w L i k e c _).1 (m, rw same at (looks.0 y), refl) in
          (j, _, h, b),
    )
