-- Open groups in the output: one opened, a member joined, one closed; and where the enclosing group's length stands.
use Prim.Native.Nat.{ℕ, ◌+◌, ◌≤◌, ◌<◌}
use native.Mathlib.Omega.{arith}
use mathlib.Core.Path.{◌≡◌, refl, sym, ap, ◌∙◌}
use mathlib.Core.Bool.{Bool}
use mathlib.Core.List.{List, [], ◌∷◌, ◌++◌, append_assoc, append-nil}
use lib.ListN.{length, drop, length-append, take-append-drop}
use lib.Seq.{drop-append_seam}
use Rattle.fields.specs.Numbers.{number_at, bytes_of}
use Rattle.fields.specs.Header.{header_of, field_of}
use Rattle.fields.specs.Output.{Front}
use Rattle.fields.proofs.Laws.{length_bytes}
use Rattle.fields.proofs.OutputLaws.{front_size_lem}
use Rattle.fields.proofs.FieldLaws.{number_read}
use Rattle.query.specs.Encode.{group_tag}
use Rattle.syntax.specs.Machine.{Frame, opened, join_to, closed_with}
use Rattle.parser.specs.Open.{flat, open_at}

-- no group is open, or one is
pub none_open : (s : List Frame) → open_at s ≡ 0 → s ≡ []
unfolding flat
none_open [] e = refl
none_open (f ∷ s) e = absurd (omega arith)

pub some_open : (s : List Frame) → (open_at s ≡ 0 → ⊥) → (f : Frame) × (r : List Frame) × (s ≡ f ∷ r)
unfolding flat
some_open [] n = absurd (n refl)
some_open (f ∷ s) n = (f, s, refl)

pub open_first : (f : Frame) (s : List Frame) → open_at (f ∷ s) ≡ length (flat s) + 1
unfolding flat
open_first f s = refl

pub open_inside : (s : List Frame) → open_at s ≤ length (flat s)
unfolding flat
open_inside [] = omega arith
open_inside (f ∷ s) = omega (arith, length-append (flat s) (header_of (group_tag f.settling) (open_at s) ++ f.done))

-- one more open group
pub flat_opened : (k : Bool) (s : List Frame) → (flat s ++ []) ++ header_of (group_tag k) (open_at s) ≡ flat (opened k s) ++ []
unfolding flat
flat_opened k s =
    ap (λ (x : List ℕ). x ++ header_of (group_tag k) (open_at s)) (append-nil (flat s))
    ∙ ap (λ (x : List ℕ). flat s ++ x) (sym (append-nil (header_of (group_tag k) (open_at s))))
    ∙ sym (append-nil (flat s ++ (header_of (group_tag k) (open_at s) ++ [])))

-- a member joined to the innermost
pub flat_joined : (f : Frame) (s : List Frame) (m : List ℕ) → flat (f ∷ s) ++ m ≡ flat (join_to f m ∷ s) ++ []
unfolding flat
flat_joined f s m =
    let h : List ℕ = header_of (group_tag f.settling) (open_at s) in
    append_assoc (flat s) (h ++ f.done) m
    ∙ ap (λ (x : List ℕ). flat s ++ x) (append_assoc h f.done m)
    ∙ sym (append-nil (flat s ++ (h ++ (f.done ++ m))))

-- the innermost with a member, its length between its tag and its members
pub flat_cut : (f : Frame) (s : List Frame) (m : List ℕ)
    → flat (f ∷ s) ++ m ≡ (flat s ++ (group_tag f.settling ∷ [])) ++ (bytes_of 2 (open_at s) ++ (f.done ++ m))
unfolding flat
flat_cut f s m =
    let h : List ℕ = header_of (group_tag f.settling) (open_at s) in
    append_assoc (flat s) (h ++ f.done) m
    ∙ ap (λ (x : List ℕ). flat s ++ x) (append_assoc h f.done m)
    ∙ sym (append_assoc (flat s) (group_tag f.settling ∷ []) (bytes_of 2 (open_at s) ++ (f.done ++ m)))

pub flat_closed : (f : Frame) (s : List Frame) (m : List ℕ)
    → (flat s ++ (group_tag f.settling ∷ [])) ++ (bytes_of 2 (length (f.done ++ m)) ++ (f.done ++ m)) ≡ flat s ++ closed_with f m
unfolding field_of
flat_closed f s m = append_assoc (flat s) (group_tag f.settling ∷ []) (bytes_of 2 (length (f.done ++ m)) ++ (f.done ++ m))

-- where the innermost one's length stands
pub open_place : (f : Frame) (s : List Frame) → open_at (f ∷ s) ≡ length (flat s ++ (group_tag f.settling ∷ []))
open_place f s = open_first f s ∙ sym (length-append (flat s) (group_tag f.settling ∷ []))

-- and what is read there while it is open
module _ {end : ℕ} {out : List ℕ} (f : Frame) (s : List Frame) (m : List ℕ) (F : Front (flat (f ∷ s) ++ m) end out) where
  pub enclosing_read : {at : ℕ} → at ≡ open_at (f ∷ s) → open_at s < 65536 → number_at out at 2 ≡ open_at s
  enclosing_read {at} e l =
      let a : List ℕ = flat s ++ (group_tag f.settling ∷ []) in
      let b : List ℕ = f.done ++ m in
      let cut : out ≡ a ++ (bytes_of 2 (open_at s) ++ (b ++ drop end out)) =
      sym (take-append-drop end out)
      ∙ ap (λ (x : List ℕ). x ++ drop end out) (F.begins ∙ flat_cut f s m)
      ∙ append_assoc a (bytes_of 2 (open_at s) ++ b) (drop end out)
      ∙ ap (λ (x : List ℕ). a ++ x) (append_assoc (bytes_of 2 (open_at s)) b (drop end out)) in
      let dropped : drop (length a) out ≡ bytes_of 2 (open_at s) ++ (b ++ drop end out) =
      ap (drop (length a)) cut ∙ drop-append_seam a (bytes_of 2 (open_at s) ++ (b ++ drop end out)) in
      number_read out at 2 (open_at s) (b ++ drop end out) (omega arith) (ap (λ (k : ℕ). drop k out) (e ∙ open_place f s) ∙ dropped)

  -- its members and their length
  pub members_length : {at : ℕ} → at ≡ open_at (f ∷ s) → end ≡ at + 2 + length (f.done ++ m)
  members_length {at} e =
      let a : List ℕ = flat s ++ (group_tag f.settling ∷ []) in
      omega (
        arith,
        front_size_lem F,
        ap length (flat_cut f s m),
        length-append a (bytes_of 2 (open_at s) ++ (f.done ++ m)),
        length-append (bytes_of 2 (open_at s)) (f.done ++ m),
        length_bytes 2 (open_at s),
        e,
        open_place f s,
      )
