use Rattle.std.proofs.Common.{◌≡◌, ◌≤◌, drop, min}
use Rattle.std.specs.Char.{is_digit}
use Rattle.std.specs.List.{list_all}
use Rattle.std.specs.Str.Parse.{digits_value, digits_value_after}
use Rattle.target_paths.proofs.character_reference.number_of.Given as goal

abbrev pub invariant-loop-byte : goal.invariant-loop-byte
invariant-loop-byte l = record {
  small : l.number ≤ 0x11_0000;
  digits : list_all (λ b. is_digit b l.radix) l.digits ≡ list_all (λ b. is_digit b l.radix) (drop l.byte-index l.digits);
  value : min 0x11_0000 (digits_value l.radix l.digits)
      ≡ min 0x11_0000 (digits_value_after l.radix l.number (drop l.byte-index l.digits));
}
