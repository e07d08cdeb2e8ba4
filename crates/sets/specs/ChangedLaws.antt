-- A list changed at one place after the other: at no place, at one more, and by a loop over a set, lowest number first.
use Rattle.std.specs.Prelude.{ℕ, ◌<◌, ◌≡◌, refl, Bool, true, false, ◌&&◌, ◌||◌, not, cond, ◌⊎◌, List, length, get_or, set, eqb}
use Rattle.std.proofs.Common.{sym, ap, ◌∙◌, inl, inr, length-set, get_or-set_same, get_or-set_other}
use Rattle.bools.specs.Bools.{clash, same?, eqb_self, eqb_ne}
use Rattle.sets.specs.Set.{has}
use Rattle.sets.specs.SetLaws.{has_none}
use Rattle.sets.specs.Kept.{FirstIs, RestIs}
use Rattle.sets.specs.KeptLaws.{rest_has}
use Rattle.sets.specs.Changed.{ChangedAt, Changing}

pub changed_nowhere : {p : ℕ → Bool} (f : ℕ → ℕ) (L : List ℕ) → ((d : ℕ) → p d ≡ false) → ChangedAt p f L L
changed_nowhere f L e = record { size = refl; each = λ d. rw (e d) }

pub changed_same : {p q : ℕ → Bool} {f : ℕ → ℕ} {L N : List ℕ} → ((d : ℕ) → p d ≡ q d) → ChangedAt p f L N → ChangedAt q f L N
changed_same {f = f} {L = L} e A = record { size = A.size; each = λ d. A.each d ∙ ap (λ (b : Bool). cond b (f (get_or L d 0)) (get_or L d 0)) (e d) }

-- one place more: t, where x is written
pub changed_more : {p : ℕ → Bool} {f : ℕ → ℕ} {t x : ℕ} {L N : List ℕ} → ChangedAt p f L N → p t ≡ false → t < length N → x ≡ f (get_or N t 0) → ChangedAt (λ d. eqb d t || p d) f L (set N t x)
changed_more {p} {f} {t} {x} {L} {N} A new h x-is = record { size = length-set N t x ∙ A.size; each = λ d. go d (same? d t) }
  where
    as_before : get_or N t 0 ≡ get_or L t 0
    as_before = A.each t ∙ rw new

    go : (d : ℕ) → (d ≡ t) ⊎ (d ≡ t → ⊥) → get_or (set N t x) d 0 ≡ cond (eqb d t || p d) (f (get_or L d 0)) (get_or L d 0)
    go d (inl q) = rw (q, get_or-set_same N t x 0 h, eqb_self t) (x-is ∙ ap f as_before)
    go d (inr ne) = rw (get_or-set_other N t d x 0 ne, eqb_ne d t ne) (A.each d)

pub change_start : (f : ℕ → ℕ) (x : ℕ) (L : List ℕ) → Changing f x x L L
change_start f x L = record { changed = changed_nowhere f L (λ d. none (has x d)); within = λ d e. e }
  where
    none : (b : Bool) → (b && not b) ≡ false
    none true = refl
    none false = refl

module _ {f : ℕ → ℕ} {x left : ℕ} {L N : List ℕ} (C : Changing f x left L N) where
  pub change_end : left ≡ 0 → ChangedAt (has x) f L N
  change_end e = changed_same (λ d. rw (e, has_none d) (all (has x d))) C.changed
    where
      all : (b : Bool) → (b && true) ≡ b
      all true = refl
      all false = refl

  -- the next of them is t, which the code has at another width as w; v is written there
  pub change_next : {t next v : ℕ} (w : ℕ) → w ≡ t → FirstIs left t → RestIs left next → t < length N → v ≡ f (get_or N w 0) → Changing f x next L (set N w v)
  change_next {t} {next} {v} w w-is T R h v-is = rw w-is (record {
    changed = changed_same (λ d. go d (same? d t)) (changed_more C.changed (rw (C.within t T.among, T.among)) h (rw w-is at v-is));
    within = λ d e. C.within d (still (eqb d t) (has left d) (sym (rest_has T R d) ∙ e));
  })
    where
      still : (q l : Bool) → cond q false l ≡ true → l ≡ true
      still true l y = clash y refl
      still false l y = y

      go : (d : ℕ) → (d ≡ t) ⊎ (d ≡ t → ⊥) → (eqb d t || (has x d && not (has left d))) ≡ (has x d && not (has next d))
      go d (inl q) = rw (q, eqb_self t, C.within t T.among, rest_has T R t, eqb_self t)
      go d (inr ne) = rw (rest_has T R d, eqb_ne d t ne)
