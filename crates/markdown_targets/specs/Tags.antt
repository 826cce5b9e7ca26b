-- Tags of HTML that are known by their names.
use Rattle.std.specs.Prelude.{ℕ, Bool, true, ◌==◌, ◌&&◌, ◌||◌, List, [], ◌∷◌, length, take, drop, slice_index, if◌then◌else◌, codes}
use Rattle.std.specs.List.{list_any}
use Rattle.std.specs.Str.{str_eq_ignore_ascii_case}
use Rattle.markdown_targets.specs.Classes.{is_blank, is_line_end}
use Rattle.markdown_targets.specs.Words.{begins_with}

-- the text begins with the name, in any case
abbrev pub begins_with_name : List ℕ → List ℕ → Bool
begins_with_name name text = str_eq_ignore_ascii_case (take (length name) text) name

-- HTML, section 13.1.2.6 "Restrictions on the contents of raw text and escapable raw text elements": a name ends before
-- the byte: a tab, a line end, a form feed, a space, `/` or `>`
abbrev pub ends_name : ℕ → Bool
ends_name b = is_blank b || is_line_end b || b == 12 || b == 47 || b == 62

-- the same section: the content of an element of this name, which has no tags, ends where the text begins: with `</`,
-- the name in any case, and a byte that ends it
abbrev pub closes : List ℕ → List ℕ → Bool
closes name text =
    begins_with (codes "</") text && ends_name (slice_index (drop 2 text) (length name)) && begins_with_name name (drop 2 text)

-- CommonMark 0.31.2, section 4.6: what comes after the name of a tag that begins a block of the first kind: a space,
-- a tab, `>` or the end of the line
abbrev pub is_apart : List ℕ → Bool
is_apart [] = true
is_apart (b ∷ bs) = is_blank b || b == 62

-- the same, for a block of the sixth kind: that, or `/>`
abbrev pub is_apart_or_closed : List ℕ → Bool
is_apart_or_closed rest = is_apart rest || begins_with (codes "/>") rest

-- the tag has this name, and begins a block of the first kind
abbrev pub is_raw_tag : List ℕ → List ℕ → Bool
is_raw_tag name tag = is_apart (drop (length name) tag) && begins_with_name name tag

-- the tag has this name, and begins a block of the sixth kind
abbrev pub is_block_tag : List ℕ → List ℕ → Bool
is_block_tag name tag = is_apart_or_closed (drop (length name) tag) && begins_with_name name tag

-- the text without the slash with which it begins
abbrev pub without_slash : List ℕ → List ℕ
without_slash text = if begins_with (codes "/") text then drop 1 text else text

-- the same section: the names of the tags that begin a block of the first kind
abbrev pub raw_names : List (List ℕ)
raw_names = codes "pre" ∷ codes "script" ∷ codes "style" ∷ codes "textarea" ∷ []

-- the same section: the names of the tags that begin a block of the sixth kind
abbrev pub block_names : List (List ℕ)
block_names =
    codes "address" ∷ codes "article" ∷ codes "aside" ∷ codes "base" ∷ codes "basefont" ∷ codes "blockquote"
    ∷ codes "body" ∷ codes "caption" ∷ codes "center" ∷ codes "col" ∷ codes "colgroup" ∷ codes "dd"
    ∷ codes "details" ∷ codes "dialog" ∷ codes "dir" ∷ codes "div" ∷ codes "dl" ∷ codes "dt"
    ∷ codes "fieldset" ∷ codes "figcaption" ∷ codes "figure" ∷ codes "footer" ∷ codes "form" ∷ codes "frame"
    ∷ codes "frameset" ∷ codes "h1" ∷ codes "h2" ∷ codes "h3" ∷ codes "h4" ∷ codes "h5" ∷ codes "h6"
    ∷ codes "head" ∷ codes "header" ∷ codes "hr" ∷ codes "html" ∷ codes "iframe" ∷ codes "legend"
    ∷ codes "li" ∷ codes "link" ∷ codes "main" ∷ codes "menu" ∷ codes "menuitem" ∷ codes "nav"
    ∷ codes "noframes" ∷ codes "ol" ∷ codes "optgroup" ∷ codes "option" ∷ codes "p" ∷ codes "param"
    ∷ codes "search" ∷ codes "section" ∷ codes "summary" ∷ codes "table" ∷ codes "tbody" ∷ codes "td"
    ∷ codes "tfoot" ∷ codes "th" ∷ codes "thead" ∷ codes "title" ∷ codes "tr" ∷ codes "track" ∷ codes "ul"
    ∷ []

-- a line that has this text after its `<` begins a block of the first kind
abbrev pub begins_raw : List ℕ → Bool
begins_raw tag = list_any (λ name. is_raw_tag name tag) raw_names

-- a line that has this text after its `<` begins a block of the sixth kind
abbrev pub begins_block : List ℕ → Bool
begins_block tag = list_any (λ name. is_block_tag name (without_slash tag)) block_names
