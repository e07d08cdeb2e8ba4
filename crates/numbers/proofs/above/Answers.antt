-- `above` meets its contract: the bytes are put in order.
use Rattle.numbers.proofs.Halves.{in_order_signed}
use Rattle.std.proofs.Common.{arith, refl, ◌/◌}
use Rattle.std.proofs.lemmas.Nat.{and_le_r}
use Rattle.numbers.proofs.above.Goals as goal

pub overflow_mul-y : goal.overflow_mul-y
overflow_mul-y c = let l = and_le_r c.half_at-x.result 16711935 in omega arith

pub overflow_add-y : goal.overflow_add-y
overflow_add-y c = let l = and_le_r c.half_at-x.result 16711935 in let m = and_le_r (c.half_at-x.result / 256) 16711935 in omega arith

pub returns : goal.returns
returns c =
    let a = c.args in (
      in_order_signed a.b.now a.at (λ i. omega (arith, c.type_inv.b i)) _ _ a.low _ c.half_at-x.ensures.0 refl
          c.wrapping_sub_u32-turned.ensures.value c.wrapping_sub_u32-first.ensures.value c.wrapping_add_u32.ensures.value c.wrapping_sub_u32.ensures.value,
      omega arith,
    )
