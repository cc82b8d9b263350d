-- `put_decimal`: the first digits are those of x / 10, and the last is put behind them; each call has a smaller number.
use native.Mathlib.Omega.{arith}
use mathlib.Core.Path.{refl}
use Prim.Native.Nat.{◌/◌}
use Rattle.text.proofs.Decimal.{decimal_one, decimal_short, put_text_digit, put_text_digits, length_digits}
use Rattle.text.proofs.+put_decimal.Goals as goal

pub returns-then-x-lt10 : goal.returns-then-x-lt10
returns-then-x-lt10 t c =
    let a = c.args in
    let h = c.if-x-lt10.true in (
      record {
        bytes = put_text_digit a.out.now a.at a.x h (omega arith);
        place = rw (decimal_one a.x h) refl;
        fits = rw (decimal_one a.x h) (omega arith);
      },
      omega arith,
    )

pub bounds-out-next : goal.bounds-out-next
bounds-out-next t c = omega (arith, decimal_short 8 (c.args.x / 10) (omega arith))

pub returns : goal.returns
returns t c =
    let a = c.args in
    let h = c.if-x-lt10.false in
    let m = c.put_decimal-next in
    let k = decimal_short 8 (a.x / 10) (omega arith) in
    let l = length_digits a.x h in (
      record {
        bytes =
            put_text_digits a.out.now m.new.out a.at a.x m.result h (omega arith) m.ensures.0.bytes m.ensures.0.place;
        place = omega arith;
        fits = omega arith;
      },
      omega arith,
    )
