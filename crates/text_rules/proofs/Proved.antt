-- The claims of specs/Claims.antt, each by citation. Assumes nothing.
use mathlib.Core.Path.{ap, sym, ◌∙◌}
use native.Mathlib.Omega.{arith}
use Rattle.text_rules.specs.Claims.{Decimal, Hex, Bounded, number_from, from_hex}
use Rattle.text_rules.proofs.Digits.{decimal_back, decimal_front, hex_back}
use Rattle.text_rules.proofs.Writing.{wrote_none, wrote_behind}

pub decimal : Decimal
decimal =
    record {
      back = decimal_back;
      one = λ x y e. sym (decimal_back x) ∙ ap (number_from 0) e ∙ decimal_back y;
      front = decimal_front;
    }

pub hex : Hex
hex =
    record {
      back = hex_back;
      one = λ s t e. sym (hex_back s) ∙ ap from_hex e ∙ hex_back t;
    }

pub bounded : Bounded
bounded = record { none = wrote_none; inside = λ before after from to w. omega arith; behind = wrote_behind }
