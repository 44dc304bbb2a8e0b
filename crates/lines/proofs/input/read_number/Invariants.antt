use Rattle.std.proofs.Common.{◌≡◌, ◌^◌, ◌<◌, drop}
use Rattle.std.specs.List.{list_all}
use Rattle.lines.specs.Input.{is_digit, value_from}
use Rattle.lines.proofs.input.read_number.Given as goal

abbrev pub invariant-loop-d : goal.invariant-loop-d
invariant-loop-d l =
    record {
      value : value_from l.value (drop l.d-index l.digits) ≡ value_from 0 l.digits;
      digits : list_all is_digit (drop l.d-index l.digits) ≡ list_all is_digit l.digits;
      small : l.value < 10 ^ l.d-index;
    }
