use Rattle.std.proofs.Common.{◌≡◌, ◌≤◌, ◌++◌, length, drop, string_bytes}
use Rattle.std.specs.Str.{chars, encode_utf8_all}
use Rattle.target_paths.specs.Writing.{spelling_from, spelling}
use Rattle.target_paths.proofs.writing.push_characters.Given as goal

abbrev pub invariant-loop-character : goal.invariant-loop-character
invariant-loop-character l = record {
  longer : length (string_bytes l.fn.target) ≤ length (string_bytes l.target);
  whole : string_bytes l.target ++ spelling_from l.position (encode_utf8_all (drop (length l.yielded) (chars l.path)))
      ≡ string_bytes l.fn.target ++ spelling l.path;
}
