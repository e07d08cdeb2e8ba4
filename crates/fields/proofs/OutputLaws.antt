-- What stays around a piece that is written; pieces one behind the other make their joined text; the front of an output.
use Prim.Native.Nat.{ℕ, suc, ◌+◌, ◌-◌, ◌≤◌, ◌<◌}
use native.Mathlib.Nat.{zero-add}
use native.Mathlib.Numerals.{add-one}
use native.Mathlib.Omega.{arith}
use mathlib.Core.Path.{◌≡◌, refl, sym, ap, ap₂, ◌∙◌}
use mathlib.Core.List.{List, [], ◌∷◌, ◌++◌, append_assoc}
use lib.ListN.{length, take, drop, set, length-append, length-drop, take-append-drop}
use lib.Seq.{length-take-le, take_at, drop_at, take-append_seam, drop-append_seam, take-append-le, drop-append-le, drop-drop, set_split, append_snoc, paste-zero}
use Rattle.fields.specs.Output.{put_at, put_front, Wrote, Front}

-- WHAT STAYS AROUND A PIECE

-- a part of a list's front
pub part_of_front : (xs ys : List ℕ) (at n : ℕ) → at + n ≤ length xs → take n (drop at (xs ++ ys)) ≡ take n (drop at xs)
part_of_front xs ys at n l =
    ap (take n) (drop-append-le at xs ys (omega arith)) ∙ take-append-le n (drop at xs) ys (omega (arith, length-drop at xs))

-- a piece written in its place stands there, and every part before it and behind it stays
module _ (at : ℕ) (new old : List ℕ) (inside : at ≤ length old) where
  abbrev behind : List ℕ
  behind = drop (at + length new) old

  before_length : length (take at old) ≡ at
  before_length = length-take-le at old inside

  cut : put_at at new old ≡ take at old ++ (new ++ behind)
  cut = append_assoc (take at old) new behind

  pub put_there : drop at (put_at at new old) ≡ new ++ behind
  put_there = ap (drop at) cut ∙ drop_at (take at old) (new ++ behind) at before_length

  pub part_before : (p n : ℕ) → p + n ≤ at → take n (drop p (put_at at new old)) ≡ take n (drop p old)
  part_before p n l =
      ap (λ (s : List ℕ). take n (drop p s)) cut
      ∙ part_of_front (take at old) (new ++ behind) p n (omega (arith, before_length))
      ∙ sym (part_of_front (take at old) (drop at old) p n (omega (arith, before_length)))
      ∙ ap (λ (s : List ℕ). take n (drop p s)) (take-append-drop at old)

  pub rest_behind : (p : ℕ) → at + length new ≤ p → drop p (put_at at new old) ≡ drop p old
  rest_behind p l =
      let m : ℕ = at + length new in
      let z : m + (p - m) ≡ p = omega arith in
      let same : drop m (put_at at new old) ≡ drop m old =
      sym (drop-drop (length new) at (put_at at new old)) ∙ ap (drop (length new)) put_there ∙ drop-append_seam new behind in
      sym (rw z at (drop-drop (p - m) m (put_at at new old))) ∙ ap (drop (p - m)) same ∙ rw z at (drop-drop (p - m) m old)

-- PIECES ONE BEHIND THE OTHER

length_more : (at : ℕ) (p q : List ℕ) → at + length p + length q ≡ at + length (p ++ q)
length_more at p q = omega (arith, length-append p q)

module _ (at : ℕ) (p q old : List ℕ) (fits : at + length p ≤ length old) where
  front_length : length (take at old ++ p) ≡ at + length p
  front_length = length-append (take at old) p ∙ ap (λ (k : ℕ). k + length p) (length-take-le at old (omega arith))

  put_both : put_at (at + length p) q (put_at at p old) ≡ put_at at (p ++ q) old
  put_both =
      ap₂ (λ (f r : List ℕ). f ++ q ++ r)
      (take_at (take at old ++ p) (drop (at + length p) old) (at + length p) front_length)
      (rest_behind at p old (omega arith) (at + length p + length q) (omega arith))
      ∙ ap₂ (λ (f : List ℕ) (k : ℕ). f ++ drop k old) (append_assoc (take at old) p q) (length_more at p q)

-- one piece, and another behind it
pub wrote_then : {at next r : ℕ} {p q old new newer : List ℕ} → next ≤ length old → Wrote at p old next new → Wrote next q new r newer → Wrote at (p ++ q) old r newer
wrote_then {at} {next} {r} {p} {q} {old} {new} {newer} l w v = record {
  bytes = v.bytes ∙ ap₂ (λ (k : ℕ) (o : List ℕ). put_at k q o) w.place w.bytes ∙ put_both at p q old (omega (arith, w.place));
  place = v.place ∙ ap (λ (k : ℕ). k + length q) w.place ∙ length_more at p q;
}

-- what is written behind first, and the piece before it second
put_before : (at : ℕ) (p q old : List ℕ) → at + length p ≤ length old → put_at at p (put_at (at + length p) q old) ≡ put_at at (p ++ q) old
put_before at p q old fits =
    ap₂ (λ (f r : List ℕ). f ++ p ++ r) (part_before (at + length p) q old fits 0 at (omega arith)) (put_there (at + length p) q old fits)
    ∙ sym (append_assoc (take at old ++ p) q (drop (at + length p + length q) old))
    ∙ ap₂ (λ (f : List ℕ) (k : ℕ). f ++ drop k old) (append_assoc (take at old) p q) (length_more at p q)

pub wrote_before : {at next r : ℕ} {p q old new newer : List ℕ} → at + length p ≤ length old → Wrote (at + length p) q old r new → Wrote at p new next newer
    → Wrote at (p ++ q) old r newer
wrote_before {at} {next} {r} {p} {q} {old} {new} {newer} l w v = record {
  bytes = v.bytes ∙ ap (put_at at p) w.bytes ∙ put_before at p q old l;
  place = w.place ∙ length_more at p q;
}

pub wrote_none : (at : ℕ) (old : List ℕ) → Wrote at [] old at old
wrote_none at old = record { bytes = paste-zero old at []; place = omega arith }

-- the same text under another name
pub wrote_same : {at r : ℕ} {p q old new : List ℕ} → p ≡ q → Wrote at p old r new → Wrote at q old r new
wrote_same {at} {r} {p} {q} {old} {new} e w = record {
  bytes = w.bytes ∙ ap (λ (t : List ℕ). put_at at t old) e;
  place = w.place ∙ ap (λ (t : List ℕ). at + length t) e;
}

-- one byte
pub wrote_byte : (at b : ℕ) (old : List ℕ) → at < length old → Wrote at (b ∷ []) old (at + 1) (set old at b)
wrote_byte at b old l = record {
  bytes = set_split old at b l ∙ sym (append_snoc (take at old) b (drop (suc at) old)) ∙ ap (λ (k : ℕ). take at old ++ (b ∷ []) ++ drop k old) (sym (add-one at));
  place = refl;
}

-- from the first byte on
pub put_front_lem : (new old : List ℕ) → put_at 0 new old ≡ put_front new old
put_front_lem new old = ap (λ (k : ℕ). new ++ drop k old) (zero-add (length new))

-- a piece of a front written again, with as many bytes
module _ (a m n b old : List ℕ) (same : length n ≡ length m) where
  pub put_again : put_at (length a) n (put_at 0 (a ++ (m ++ b)) old) ≡ put_at 0 (a ++ (n ++ b)) old
  put_again =
      let rest : List ℕ = drop (length (a ++ (m ++ b))) old in
      let cut : put_at 0 (a ++ (m ++ b)) old ≡ a ++ (m ++ (b ++ rest)) =
      put_front_lem (a ++ (m ++ b)) old ∙ append_assoc a (m ++ b) rest ∙ ap (λ (r : List ℕ). a ++ r) (append_assoc m b rest) in
      let back : drop (length a + length n) (put_at 0 (a ++ (m ++ b)) old) ≡ b ++ rest =
      sym (drop-drop (length n) (length a) (put_at 0 (a ++ (m ++ b)) old))
      ∙ ap (drop (length n)) (ap (drop (length a)) cut ∙ drop-append_seam a (m ++ (b ++ rest)))
      ∙ drop_at m (b ++ rest) (length n) (sym same) in
      let sized : length (a ++ (m ++ b)) ≡ length (a ++ (n ++ b)) =
      omega (arith, length-append a (m ++ b), length-append m b, length-append a (n ++ b), length-append n b) in
      ap₂ (λ (f r : List ℕ). f ++ n ++ r) (ap (take (length a)) cut ∙ take-append_seam a (m ++ (b ++ rest))) back
      ∙ sym (append_assoc (a ++ n) b rest)
      ∙ ap₂ (λ (f : List ℕ) (k : ℕ). f ++ drop k old) (append_assoc a n b) sized
      ∙ sym (put_front_lem (a ++ (n ++ b)) old)

pub wrote_again : (a m b : List ℕ) {at end r : ℕ} {n old new newer : List ℕ} → length n ≡ length m → at ≡ length a
    → Wrote 0 (a ++ (m ++ b)) old end new → Wrote at n new r newer → Wrote 0 (a ++ (n ++ b)) old end newer
wrote_again a m b {at} {end} {r} {n} {old} {new} {newer} same e w v = record {
  bytes = v.bytes ∙ ap₂ (λ (k : ℕ) (o : List ℕ). put_at k n o) e w.bytes ∙ put_again a m n b old same;
  place = omega (arith, w.place, length-append a (m ++ b), length-append m b, length-append a (n ++ b), length-append n b, same);
}

-- THE FRONT OF AN OUTPUT

-- an output that is written into keeps its length
pub wrote_length : {at r : ℕ} {p old new : List ℕ} → Wrote at p old r new → r ≤ length old → length new ≡ length old
wrote_length {at} {r} {p} {old} {new} w l =
    omega (
      arith,
      ap length w.bytes,
      w.place,
      length-append (take at old ++ p) (drop (at + length p) old),
      length-append (take at old) p,
      length-take-le at old (omega (arith, w.place)),
      length-drop (at + length p) old,
    )

-- the front of an output is as long as its place says
pub front_size_lem : {x : List ℕ} {end : ℕ} {out : List ℕ} → Front x end out → length x ≡ end
front_size_lem {x} {end} {out} F = ap length (sym F.begins) ∙ length-take-le end out F.inside

-- the front and what is written behind it
pub front_then : {x : List ℕ} {end stop : ℕ} {out p new : List ℕ} → Front x end out → Wrote end p out stop new → stop ≤ length out → Front (x ++ p) stop new
front_then {x} {end} {stop} {out} {p} {new} F w l =
    let cut : new ≡ (x ++ p) ++ drop (end + length p) out = w.bytes ∙ ap (λ (f : List ℕ). f ++ p ++ drop (end + length p) out) F.begins in
    let sized : length (x ++ p) ≡ stop = omega (arith, length-append x p, front_size_lem F, w.place) in
    record {
      begins = ap (take stop) cut ∙ take_at (x ++ p) (drop (end + length p) out) stop sized;
      inside = omega (arith, ap length cut, length-append (x ++ p) (drop (end + length p) out));
    }

-- the front stands there as if it had been written
front_written : {x : List ℕ} {end : ℕ} {out : List ℕ} → Front x end out → Wrote 0 x out end out
front_written {x} {end} {out} F = record {
  bytes =
      sym (take-append-drop end out)
      ∙ ap (λ (f : List ℕ). f ++ drop end out) F.begins
      ∙ ap (λ (k : ℕ). x ++ drop k out) (sym (front_size_lem F))
      ∙ sym (put_front_lem x out);
  place = omega (arith, front_size_lem F);
}

-- a piece of it written again, with as many bytes
pub front_again : (a m b : List ℕ) {at end r : ℕ} {n out new : List ℕ} → length n ≡ length m → at ≡ length a → Front (a ++ (m ++ b)) end out → Wrote at n out r new
    → Front (a ++ (n ++ b)) end new
front_again a m b {at} {end} {r} {n} {out} {new} same e F w =
    let v : Wrote 0 (a ++ (n ++ b)) out end new = wrote_again a m b same e (front_written F) w in
    let cut : new ≡ (a ++ (n ++ b)) ++ drop (length (a ++ (n ++ b))) out = v.bytes ∙ put_front_lem (a ++ (n ++ b)) out in
    record {
      begins = ap (take end) cut ∙ take_at (a ++ (n ++ b)) (drop (length (a ++ (n ++ b))) out) end (omega (arith, v.place));
      inside = omega (arith, ap length cut, length-append (a ++ (n ++ b)) (drop (length (a ++ (n ++ b))) out), v.place);
    }
