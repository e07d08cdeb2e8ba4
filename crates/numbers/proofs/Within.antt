-- A range as one comparison, and the blank as a range of one number.
use Rattle.std.proofs.Common.{◌≡◌, ℕ, ◌+◌, ◌%◌, ◌^◌, ◌<◌, ◌≤◌, true, not, ltb, leb, ap, arith, eq-eqb, eqb-true, le-leb, leb-true}
use Rattle.bools.specs.Bools.{both, not_of_true, and_parts, iff_eq, ltb_no, ltb_le}
use Rattle.catalogue.specs.Format.{blank_number}
use Rattle.predicate.specs.Meaning.{number_blank}
use Rattle.numbers.specs.Within.{within}

-- the distance from low, wrapped, is not over the width just from low to low + width
pub within_wraps : (low width n r : ℕ) → r < 2 ^ 32 → low + width < 2 ^ 32 → (r + low) % 2 ^ 32 ≡ n → not (ltb width r) ≡ within low width n
within_wraps low width n r small fits e = iff_eq (not (ltb width r)) (within low width n) to from
  where
    to : not (ltb width r) ≡ true → within low width n ≡ true
    to t = let l : r ≤ width = ltb_le width r (not_of_true (ltb width r) t) in both (le-leb low n (omega arith)) (le-leb n (low + width) (omega arith))

    from : within low width n ≡ true → not (ltb width r) ≡ true
    from t =
        let p = and_parts (leb low n) (leb n (low + width)) t in
        let l : low ≤ n = leb-true low n p.0 in
        let h : n ≤ low + width = leb-true n (low + width) p.1 in
        ap not (ltb_no width r (omega arith))

-- the blank as a range of one number
pub is_blank_lem : (n : ℕ) → within blank_number 0 n ≡ number_blank n
is_blank_lem n = iff_eq (within blank_number 0 n) (number_blank n) to from
  where
    to : within blank_number 0 n ≡ true → number_blank n ≡ true
    to t =
        let p = and_parts (leb blank_number n) (leb n (blank_number + 0)) t in
        let l : blank_number ≤ n = leb-true blank_number n p.0 in
        let h : n ≤ blank_number + 0 = leb-true n (blank_number + 0) p.1 in
        eq-eqb n blank_number (omega arith)

    from : number_blank n ≡ true → within blank_number 0 n ≡ true
    from t = let e : n ≡ blank_number = eqb-true n blank_number t in both (le-leb blank_number n (omega arith)) (le-leb n (blank_number + 0) (omega arith))
