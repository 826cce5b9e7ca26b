use Rattle.std.proofs.Common.{◌≡◌, ◌++◌, [], arith, ap, ◌∙◌, fold, length, replicate, string_bytes}
use Rattle.relative_path.specs.Writing.{with_piece}
use Rattle.relative_path.specs.Steps.{up, step_text, spell}
use Rattle.relative_path.specs.Unix.{onto}
use Rattle.relative_path.specs.UnixComponents.{unix_left}
use Rattle.relative_path.proofs.UnixTextsLemmas.{length-onto_le, onto-counted}
use Rattle.relative_path.proofs.unix_texts.climbed_text.Goals as goal
use Rattle.relative_path.proofs.unix_texts.climbed_text.Goals.{After-push_climb}

-- the climbs with the components after them are the whole text
whole : (c : After-push_climb) → onto (string_bytes c.push_climb.new.text) (unix_left c.args.components)
    ≡ spell (replicate c.args.climb up ++ unix_left c.args.components)
whole c =
    let climbs = replicate c.args.climb (step_text up) in
    let written = c.push_climb.ensures.text ∙ ap (λ text. fold with_piece text climbs) c.in_ok-text.ensures.bytes in
    ap (λ text. onto text (unix_left c.args.components)) written
    ∙ onto-counted c.args.climb c.args.components.skips_cur_dirs c.args.components.left.text.now

pub push_climb-requires : goal.push_climb-requires
push_climb-requires c =
    let len = rw c.in_ok-len.ensures.ok_part at c.climbed_len.ensures in
    let spelled = onto-counted c.args.climb c.args.components.skips_cur_dirs c.args.components.left.text.now in
    let climbs = fold with_piece [] (replicate c.args.climb (step_text up)) in
    let shorter = length-onto_le climbs (unix_left c.args.components) in
    rw c.in_ok-text.ensures.bytes (omega (arith, ap length spelled, shorter, len, c.in_ok-text.ensures.capacity))

pub push_components-requires : goal.push_components-requires
push_components-requires c =
    let len = rw c.in_ok-len.ensures.ok_part at c.climbed_len.ensures in
    let spelled = ap length (whole (goal.at.push_components-requires c).After-push_climb) in
    omega (arith, spelled, len, c.in_ok-text.ensures.capacity, c.push_climb.ensures.room)

pub returns : goal.returns
returns c = c.push_components.ensures ∙ whole (goal.at.returns c).After-push_climb
