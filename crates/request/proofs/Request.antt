-- The checks of a request one by one, and what holds where none fails.
use Prim.Native.Nat.{ℕ, ◌*◌, ◌≤◌, ◌<◌}
use native.Mathlib.Omega.{arith}
use mathlib.Core.Path.{◌≡◌, sym}
use mathlib.Core.Bool.{true, false}
use mathlib.Core.List.{List}
use lib.Dec.{leb}
use borrow.Author.Tests.{le-leb, lt-leb, lt-ltb, le-ltb}
use Rattle.bools.specs.Bools.{and_parts, leb_le, ltb_lt}
use Rattle.strategy.specs.Order.{is_order}
use Rattle.answers.specs.Refusals.{not_order, table_too_short, no_such_reader}
use Rattle.answers.specs.Checks.{checked, refusal_by}
use Rattle.answers.proofs.Checks.{AllHold, none_fails}
use Rattle.demands.specs.Run.{reader_limit, request_checks}

module _ (n size : ℕ) (order : List ℕ) (reader listed looks : ℕ) where
  abbrev first : ℕ
  first = refusal_by (request_checks n size order reader listed looks)

  pub not_order_lem : is_order n order ≡ false → not_order ≡ first
  unfolding checked
  not_order_lem o = rw o

  module _ (o : is_order n order ≡ true) where
    pub listed_short : listed < size → table_too_short ≡ first
    unfolding checked
    listed_short h = rw (o, lt-leb size listed h)

    pub looks_short : size ≤ listed → looks < n * size → table_too_short ≡ first
    unfolding checked
    looks_short g h = rw (o, le-leb size listed g, lt-leb (n * size) looks h)

    pub no_such_reader_lem : size ≤ listed → n * size ≤ looks → reader_limit ≤ reader → no_such_reader ≡ first
    unfolding checked
    no_such_reader_lem g h l = rw (o, le-leb size listed g, le-leb (n * size) looks h, le-ltb reader reader_limit l)

    pub request_holds : size ≤ listed → n * size ≤ looks → reader < reader_limit → 0 ≡ first
    unfolding checked
    request_holds g h l = rw (o, le-leb size listed g, le-leb (n * size) looks h, lt-ltb reader reader_limit l)

  module _ (z : 0 ≡ first) where
    pub request_kept : AllHold (request_checks n size order reader listed looks)
    request_kept = none_fails (request_checks n size order reader listed looks) (omega arith, (omega arith, (omega arith, tt))) (sym z)

    pub request_order : is_order n order ≡ true
    request_order = request_kept.0

    -- what the end of a run asks: room in the tables, and a reader
    pub request_fits : ((size ≤ listed) × (n * size ≤ looks)) × (reader < reader_limit)
    request_fits =
        let p = and_parts (leb size listed) (leb (n * size) looks) request_kept.1.0 in
        ((leb_le size listed p.0, leb_le (n * size) looks p.1), ltb_lt reader reader_limit request_kept.1.1.0)
