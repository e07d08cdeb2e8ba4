-- `pair_of` meets its contract: the tight tests of two folded bytes.
use Rattle.filters.proofs.pair.pair_of.Goals as goal

pub returns : goal.returns
returns c =
    record {
      first_place = _;
      second_place = _;
      reach = c.second_place-j.ensures;
      pair_is = rw (c.tight_test.ensures, c.tight_test-2.ensures, c.either_is_loose-loose.ensures, c.of-first.ensures, c.of-second.ensures);
    }
