-- The bytes of a copy, seven by seven: field j is that of one look, each look has one, and entries ascend.
use Prim.Native.Nat.{ℕ, zero, suc, ◌+◌, ◌-◌, ◌*◌, ◌^◌, ◌≤◌, ◌<◌}
use native.Mathlib.Omega.{arith}
use mathlib.Core.Path.{◌≡◌, refl, sym, ap, ap₂, ◌∙◌, subst}
use mathlib.Core.Bool.{Bool, true, false, cond}
use mathlib.Core.Logic.{◌⊎◌, inl, inr}
use mathlib.Core.List.{List, [], ◌∷◌, ◌++◌}
use lib.ListN.{length, get_or, take, drop, length-drop}
use lib.Seq.{take-append-le, drop-append-le, drop-append-add}
use lib.Dec.{ltb}
use Rattle.bools.specs.Bools.{which, eqb_self, eqb_ne, same?, ltb_lt, ltb_le}
use Rattle.fields.specs.Numbers.{bytes_of}
use Rattle.fields.specs.Header.{field_of}
use Rattle.strategy.specs.Order.{occurrences}
use Rattle.bitmaps.specs.Sums.{sum_of, joined, digit}
use Rattle.bitmaps.proofs.SumLaws.{sum_split}
use Rattle.task.specs.Log.{probe_field, row_fields, log_fields}
use Rattle.task.proofs.LogLength.{log_length}
use Rattle.task.specs.Task.{is_probed}
use Rattle.task.specs.Input.{Input}
use Rattle.demands.specs.Run.{row_count, task_of}
use Rattle.demands.specs.Demands.{RunningOrder, LookMade}
use Rattle.demands.specs.Log.{EachProbeOnce}
use Rattle.demands.specs.CopyPage.{look_field}
use Rattle.demands.proofs.DemandTables.{digit_le, probed_made}

-- PLACES IN A LIST

abbrev one : Bool → ℕ
one b = cond b 1 0

occurs_at : (l : List ℕ) (k : ℕ) → k < length l → 0 < occurrences (get_or l k 0) l
unfolding occurrences
occurs_at [] k h = absurd (omega arith)
occurs_at (d ∷ ds) zero h = rw (eqb_self d) (omega arith)
occurs_at (d ∷ ds) (suc k) h = omega (arith, occurs_at ds k (omega arith))

occurs_place : (c : ℕ) (l : List ℕ) → 0 < occurrences c l → (k : ℕ) × (k < length l) × (get_or l k 0 ≡ c)
unfolding occurrences
occurs_place c [] h = absurd (omega arith)
occurs_place c (d ∷ ds) h =
    let go : (c ≡ d) ⊎ (c ≡ d → ⊥) → (k : ℕ) × (k < suc (length ds)) × (get_or (d ∷ ds) k 0 ≡ c) = elim [
      | inl e ↦ (0, omega arith, sym e)
      | inr n ↦ let p = occurs_place c ds (rest n) in (suc p.0, omega (arith, p.1), p.2)
    ] in
    go (same? c d)
  where
    rest : (c ≡ d → ⊥) → 0 < occurrences c ds
    rest n = omega (arith, ap one (eqb_ne c d n))

-- a number that stands once stands at one place
twice : (d : ℕ) (ds : List ℕ) (k : ℕ) → k < length ds → d ≡ get_or ds k 0 → occurrences d (d ∷ ds) ≤ 1 → ⊥
unfolding occurrences
twice d ds k l e o = let m : 0 < occurrences d ds = rw e (occurs_at ds k l) in omega (arith, ap one (eqb_self d))

place_once : (l : List ℕ) (j k : ℕ) → j < length l → k < length l → occurrences (get_or l j 0) l ≤ 1 → get_or l j 0 ≡ get_or l k 0 → j ≡ k
unfolding occurrences
place_once [] j k x y o e = absurd (omega arith)
place_once (d ∷ ds) zero zero x y o e = refl
place_once (d ∷ ds) zero (suc k) x y o e = absurd (twice d ds k (omega arith) e o)
place_once (d ∷ ds) (suc j) zero x y o e = absurd (twice d ds j (omega arith) (sym e) (subst (λ (x : ℕ). occurrences x (d ∷ ds) ≤ 1) e o))
place_once (d ∷ ds) (suc j) (suc k) x y o e = ap suc (place_once ds j k (omega arith) (omega arith) (omega arith) e)

-- FIELDS IN THE BYTES

-- a field as the page spells it, and its parts
pub field_plain : (e c o : ℕ) → e < 2 ^ 16 → probe_field e c o ≡ look_field e c o
unfolding probe_field field_of bytes_of
field_plain e c o l = ap₂ (λ (x y : ℕ). 76 ∷ 0 ∷ 4 ∷ x ∷ y ∷ c ∷ o ∷ []) (omega arith) (omega arith)

pub field_parts : (e e' : ℕ) {c o c' o' : ℕ} → look_field e c o ≡ look_field e' c' o' → (e ≡ e') × (c ≡ c') × (o ≡ o')
field_parts e e' {c} {o} {c'} {o'} h =
    let at : (k : ℕ) → get_or (look_field e c o) k 0 ≡ get_or (look_field e' c' o') k 0 = λ k. ap (λ (f : List ℕ). get_or f k 0) h in
    (omega (arith, at 3, at 4), at 5, at 6)

row_cut : (o : ℕ → ℕ) (row : ℕ) (s : List ℕ) (k : ℕ) → k < length s → take 7 (drop (k * 7) (row_fields o row s)) ≡ probe_field row (get_or s k 0) (o (get_or s k 0))
unfolding row_fields probe_field field_of bytes_of
row_cut o row [] k l = absurd (omega arith)
row_cut o row (c ∷ cs) zero l = refl
row_cut o row (c ∷ cs) (suc k) l =
    let z : suc k * 7 ≡ suc (suc (suc (suc (suc (suc (suc (k * 7))))))) = omega arith in
    rw z (row_cut o row cs k (omega arith))

-- how many fields stand before those of a row
abbrev pub fields_before : (sequence : (row : ℕ) → List ℕ) → (row : ℕ) → ℕ
fields_before s row = sum_of (λ e. length (s e)) row

-- field j of a log is the one at place k of its row's sequence
pub record FieldAt (s : (row : ℕ) → List ℕ) (rows j row k : ℕ) : Type 0 where
  pub inside : row < rows
  pub within : k < length (s row)
  pub place : j ≡ fields_before s row + k

sum_up : (g : ℕ → ℕ) (m n : ℕ) → m ≤ n → sum_of g m ≤ sum_of g n
sum_up g m n l =
    let z : m + (n - m) ≡ n = omega arith in
    subst (λ (k : ℕ). sum_of g m ≤ sum_of g k) z (omega (arith, sum_split g m (n - m)))

module _ {s : (row : ℕ) → List ℕ} where
  -- the fields of a row end before those of the next
  row_end : {rows j row k : ℕ} → FieldAt s rows j row k → (next : ℕ) → row < next → j < fields_before s next
  unfolding sum_of
  row_end {row = row} F next l = omega (arith, F.within, F.place, sum_up (λ e. length (s e)) (suc row) next l)

  pub field_before : {rows j row k : ℕ} → FieldAt s rows j row k → j < fields_before s rows
  field_before {rows} F = row_end F rows F.inside

  -- "Entries ascend"
  pub field_ascends : {rows j row k j' row' k' : ℕ} → FieldAt s rows j row k → FieldAt s rows j' row' k' → j ≤ j' → row ≤ row'
  field_ascends {row = row} {row' = row'} F G l = go (which (ltb row' row))
    where
      go : (ltb row' row ≡ true) ⊎ (ltb row' row ≡ false) → row ≤ row'
      go (inl y) = absurd (omega (arith, F.place, row_end G row (ltb_lt row' row y)))
      go (inr y) = ltb_le row' row y

  pub field_of_lem : (rows j : ℕ) → j < fields_before s rows → (row : ℕ) × (k : ℕ) × FieldAt s rows j row k
  unfolding sum_of
  field_of_lem zero j l = absurd (omega arith)
  field_of_lem (suc n) j l = go (which (ltb j (fields_before s n))) (field_of_lem n j)
    where
      go : (ltb j (fields_before s n) ≡ true) ⊎ (ltb j (fields_before s n) ≡ false) → (j < fields_before s n → (row : ℕ) × (k : ℕ) × FieldAt s n j row k)
          → (row : ℕ) × (k : ℕ) × FieldAt s (suc n) j row k
      go (inl y) ih =
          let (row, k, F) = ih (ltb_lt j (fields_before s n) y) in
          (row, k, record { inside = omega (arith, F.inside); within = F.within; place = F.place })
      go (inr y) ih =
          let m : fields_before s n ≤ j = ltb_le j (fields_before s n) y in
          (n, j - fields_before s n, record { inside = omega arith; within = omega arith; place = omega arith })

  -- the seven bytes of field j
  pub log_cut : (o : (row c : ℕ) → ℕ) (rows : ℕ) {j row k : ℕ} → FieldAt s rows j row k
      → take 7 (drop (j * 7) (log_fields o s rows)) ≡ probe_field row (get_or (s row) k 0) (o row (get_or (s row) k 0))
  unfolding log_fields joined
  log_cut o zero F = absurd (omega (arith, F.inside))
  log_cut o (suc n) {j} {row} {k} F = go (which (ltb row n)) (log_cut o n)
    where
      long : length (log_fields o s n) ≡ 7 * fields_before s n
      long = log_length o s n

      go : (ltb row n ≡ true) ⊎ (ltb row n ≡ false)
          → (FieldAt s n j row k → take 7 (drop (j * 7) (log_fields o s n)) ≡ probe_field row (get_or (s row) k 0) (o row (get_or (s row) k 0)))
          → take 7 (drop (j * 7) (log_fields o s n ++ row_fields (o n) n (s n))) ≡ probe_field row (get_or (s row) k 0) (o row (get_or (s row) k 0))
      go (inl y) ih =
          let G : FieldAt s n j row k = record { inside = ltb_lt row n y; within = F.within; place = F.place } in
          ap (take 7) (drop-append-le (j * 7) (log_fields o s n) (row_fields (o n) n (s n)) (omega (arith, long, field_before G)))
          ∙ take-append-le 7 (drop (j * 7) (log_fields o s n)) (row_fields (o n) n (s n)) (omega (arith, long, field_before G, length-drop (j * 7) (log_fields o s n)))
          ∙ ih G
      go (inr y) ih =
          let q : row ≡ n = omega (arith, F.inside, ltb_le row n y) in
          let f : k < length (s n) = rw (← q) F.within in
          let z : j * 7 ≡ length (log_fields o s n) + k * 7 = omega (arith, long, F.place, ap (fields_before s) q) in
          rw (z, q) (ap (take 7) (drop-append-add (log_fields o s n) (row_fields (o n) n (s n)) (k * 7)) ∙ row_cut (o n) n (s n) k f)

-- LOOKS

module _ (i : Input) (order : List ℕ) (o : RunningOrder i order) (s : (entry : ℕ) → List ℕ) (each : EachProbeOnce (task_of i order) s) where
  -- what stands in an entry's sequence is looked at there, and what is looked at stands there, at one place
  pub place_made : {e k : ℕ} → e < row_count i → k < length (s e) → LookMade i order e (get_or (s e) k 0)
  place_made {e} {k} m l = (probed_made i order o (get_or (s e) k 0) e).0 (go (is_probed (task_of i order) (get_or (s e) k 0) e) (each e m (get_or (s e) k 0)))
    where
      go : (b : Bool) → occurrences (get_or (s e) k 0) (s e) ≡ digit b → b ≡ true
      go true h = refl
      go false h = absurd (omega (arith, occurs_at (s e) k l))

  pub made_place : {e c : ℕ} → e < row_count i → LookMade i order e c → (k : ℕ) × (k < length (s e)) × (get_or (s e) k 0 ≡ c)
  made_place {e} {c} m D = occurs_place c (s e) (omega (arith, each e m c, ap digit ((probed_made i order o c e).1 D)))

  pub place_alone : {e j k : ℕ} → e < row_count i → j < length (s e) → k < length (s e) → get_or (s e) j 0 ≡ get_or (s e) k 0 → j ≡ k
  place_alone {e} {j} {k} m x y h =
      place_once (s e) j k x y (omega (arith, each e m (get_or (s e) j 0), digit_le (is_probed (task_of i order) (get_or (s e) j 0) e))) h
