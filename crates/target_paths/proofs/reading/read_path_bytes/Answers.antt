use Rattle.std.proofs.Common.{◌≡◌, List, ℕ, sym, ap, subst, refl, string_bytes}
use Rattle.std.proofs.lemmas.Bool.{false≢true}
use Rattle.std.proofs.lemmas.Str.{IsUtf8-string_bytes}
use Rattle.std.specs.Str.{IsUtf8}
use Rattle.target_paths.specs.Reading.{Says}
use Rattle.target_paths.specs.declared.target.TargetReading.TheVariants.{Path}
use Rattle.target_paths.proofs.ReadingLemmas.{meaning-utf8, meaning-not_utf8}
use Rattle.target_paths.proofs.reading.read_path_bytes.Goals as goal

pub returns-in-Ok-clause-ok : goal.returns-in-Ok-clause-ok
returns-in-Ok-clause-ok c =
    let bytes : List ℕ = c.args.path.items in
    let same : string_bytes c.in-Ok.path ≡ bytes = ap (λ vec. vec.items) c.in-Ok.ensures.ok in
    let utf8 : IsUtf8 bytes = subst IsUtf8 same (IsUtf8-string_bytes c.in-Ok.path) in
    subst (λ means. Says means (Path c.in-Ok.path c.args.tail_at)) (sym (meaning-utf8 bytes c.args.tail_at utf8)) (same, refl)

pub returns-clause-err : goal.returns-clause-err
returns-clause-err c =
    meaning-not_utf8 c.args.path.items c.args.tail_at (λ is. false≢true (c.in-Err.ensures.succeeds is))
