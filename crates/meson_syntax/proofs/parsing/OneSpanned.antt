-- A text has one place for each node, whatever limits it is read within.
use Rattle.std.proofs.Common.{◌≡◌, ℕ, ◌≤◌, max, List, [], length, refl, sym, ap, subst, ◌∙◌, arith}
use Rattle.std.proofs.lemmas.List.{append-nil}
use Rattle.meson_lex.specs.declared.kinds.Span.{Span}
use Rattle.meson_lex.specs.Significant.{start}
use Rattle.meson_lex.specs.Located.{Token, spots, located}
use Rattle.meson_lex.proofs.OneList.{one_list}
use Rattle.meson_syntax.specs.declared.operator.Bracket.{Bracket}
use Rattle.meson_syntax.specs.declared.source.Limits.{Limits}
use Rattle.meson_syntax.specs.Tree.{Listing, File}
use Rattle.meson_syntax.specs.inside.Input.{Input}
use Rattle.meson_syntax.specs.Spelling.{end_of, SpellsListing, SpellsFile}
use Rattle.meson_syntax.specs.Reads.{IsSpannedWithin}
use Rattle.meson_syntax.specs.ReadsList.{IsSpannedListWithin, list_items}
use Rattle.meson_syntax.specs.Laws.{OneSpannedTreeWithin, OneSpannedList}
use Rattle.meson_syntax.proofs.parsing.Steps.{Passes, some-injective}
use Rattle.meson_syntax.proofs.parsing.Erased.{listing-depth-erased}
use Rattle.meson_syntax.proofs.parsing.FileErased.{file-depth-erased}
use Rattle.meson_syntax.proofs.parsing.CompleteRows.{complete-listed}
use Rattle.meson_syntax.proofs.parsing.CompleteFiles.{whole-complete}
use Rattle.meson_syntax.proofs.parsing.WithinExpressions.{listing_in}
use Rattle.meson_syntax.proofs.parsing.WithinFiles.{file_in}

-- ---- files

-- what is read within limits is spelled at any depth that is no less
at-depth : (limits : Limits) (bytes : List ℕ) (f : File Span) (s : IsSpannedWithin limits bytes f) (depth : ℕ) → limits.depth ≤ depth
    → SpellsFile f (length bytes) depth (located s.reads.spells.items)
at-depth limits bytes f s depth h =
    let n = file-depth-erased f in
    let room = s.reads.depth in
    file_in f (length bytes) limits.depth depth (located s.reads.spells.items) s.stands (omega arith)

pub one-spanned-within : OneSpannedTreeWithin
one-spanned-within limits others bytes f g p q =
    let len = length bytes in
    let depth = max limits.depth others.depth in
    let items = p.reads.spells.items in
    let same = one_list bytes q.reads.spells.items items q.reads.spells.are_items p.reads.spells.are_items in
    let stands : SpellsFile g len depth (located items) = subst (λ xs. SpellsFile g len depth (located xs)) same
    (at-depth others bytes g q depth (omega arith)) in
    some-injective _ _ (sym (whole-complete depth len (located items) f (at-depth limits bytes f p depth (omega arith)))
    ∙ whole-complete depth len (located items) g stands)

-- ---- lists

all-passes : (P : List Token → Type 0) (ts : List Token) → P ts → Passes P (record { last = 0; rest = ts }) (record { last = end_of 0 ts; rest = [] })
all-passes P ts h = record { used = ts; fits = h; took = record { rest = sym (append-nil ts); last = refl } }

-- tokens spell one list
pub one-spelled-list : (b : Bracket) (depth : ℕ) (l m : Listing Span) (ts : List Token) → SpellsListing l b depth ts → SpellsListing m b depth ts → l ≡ m
one-spelled-list b depth l m ts p q =
    let i : Input = record { last = 0; rest = ts } in
    let j : Input = record { last = end_of 0 ts; rest = [] } in
    let first = complete-listed depth l b i j (all-passes (SpellsListing l b depth) ts p) in
    let second = complete-listed depth m b i j (all-passes (SpellsListing m b depth) ts q) in
    ap (λ r. r.0) (some-injective (l, j) (m, j) (sym first ∙ second))

list-at-depth : (most : ℕ) (b : Bracket) (bytes : List ℕ) (l : Listing Span) (s : IsSpannedListWithin most b bytes l) (depth : ℕ) → most ≤ depth
    → SpellsListing l b depth (spots start 0 0 (list_items s.reads.text))
list-at-depth most b bytes l s depth h =
    let n = listing-depth-erased l in
    let room = s.reads.depth in
    listing_in l b most depth (spots start 0 0 (list_items s.reads.text)) s.stands (omega arith)

pub one-spanned-list : OneSpannedList
one-spanned-list b bytes most other l m p q =
    let depth = max most other in
    let items = list_items p.reads.text in
    let others = list_items q.reads.text in
    let ts = spots start 0 0 items in
    let same = one_list bytes others items q.reads.text.are_items p.reads.text.are_items in
    let stands : SpellsListing m b depth ts = subst (λ xs. SpellsListing m b depth (spots start 0 0 xs)) same
    (list-at-depth other b bytes m q depth (omega arith)) in
    one-spelled-list b depth l m ts (list-at-depth most b bytes l p depth (omega arith)) stands
