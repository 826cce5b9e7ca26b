-- The text is cut to what the name is pushed onto.
use Rattle.std.proofs.Common.{arith, length, rules, ap, ap₂, ◌∙◌, subst, sym}
use Rattle.std.specs.Str.{IsUtf8}
use Rattle.relative_path.specs.Editing.{pushed}
use Rattle.relative_path.specs.Naming.{IsBase}
use Rattle.relative_path.proofs.SlicesLemmas.{IsPrefix}
use Rattle.relative_path.proofs.NamingLemmas.{IsPrefix-IsBase, ExceedsRoom-named, components-IsNamed}
use Rattle.relative_path.proofs.NamingEditsLemmas.{file_name-IsNamed, IsBeside-IsNamed}
use Rattle.relative_path.proofs.buf.RelativePathBuf.set_file_name.Goals as goal
use Rattle.relative_path.proofs.buf.RelativePathBuf.set_file_name.Goals.{After-base_of-base, In_ok-reserve_to}

-- what the name is pushed onto
base : (c : After-base_of-base) → IsBase c.args.self.now.text c.base_of-base.result.now
base c = let shown = c.as_str.ensures.value ∙ ap (λ b. b.text) c.self.view_is in rw (← shown) c.base_of-base.ensures

-- it is a prefix of the text
front : (c : In_ok-reserve_to) → IsPrefix c.reserve_to.new.self.text c.base_of-base.result.now
front c =
    let shown = c.as_str.ensures.value ∙ ap (λ b. b.text) c.self.view_is in
    rw (shown ∙ sym c.in_ok-reserve_to.ensures.text) at (IsPrefix-IsBase _ _ c.base_of-base.ensures)

pub returns-in_err-reserve_to-clause-full : goal.returns-in_err-reserve_to-clause-full
returns-in_err-reserve_to-clause-full c =
    let is = base (goal.at.returns-in_err-reserve_to-clause-full c).After-base_of-base in
    let long = ExceedsRoom-named _ c.args.file_name.now c.base_of-base.result.now c.args.self.now.room _ is c.pushed_len-len.ensures
    c.in_err-reserve_to.ensures.full in
    search rules

pub cut_to-requires : goal.cut_to-requires
cut_to-requires c = subst IsUtf8 (front (goal.at.cut_to-requires c).In_ok-reserve_to).front c.base_of-base.utf8

pub returns-clause-ok : goal.returns-clause-ok
returns-clause-ok c =
    let cut = c.cut_to.ensures.text ∙ sym (front (goal.at.returns-clause-ok c).In_ok-reserve_to).front in
    let pushed_on = c.push_reserved.ensures.text ∙ ap₂ pushed cut c.new.ensures in
    (c.base_of-base.result.now, base (goal.at.returns-clause-ok c).After-base_of-base, pushed_on)

pub push_reserved-requires : goal.push_reserved-requires
push_reserved-requires c =
    let cut = c.cut_to.ensures.text ∙ sym (front (goal.at.push_reserved-requires c).In_ok-reserve_to).front in
    let len = ap length (ap₂ pushed cut c.new.ensures) in
    omega (arith, len, c.pushed_len-len.ensures, c.cut_to.ensures.room, c.in_ok-reserve_to.ensures.ok)

pub returns-clause-components : goal.returns-clause-components
returns-clause-components c = components-IsNamed _ _ _ (returns-clause-ok c)

pub returns-clause-name : goal.returns-clause-name
returns-clause-name c = λ one. file_name-IsNamed _ _ _ (returns-clause-ok c) one

pub returns-clause-beside : goal.returns-clause-beside
returns-clause-beside c = λ found one. IsBeside-IsNamed _ _ _ (returns-clause-ok c) found one
