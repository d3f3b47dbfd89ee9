-- A text has one tree, and that has one place for each node.
use Rattle.std.proofs.Common.{◌≡◌, ℕ, List, length, sym, ap, subst, ◌∙◌}
use Rattle.meson_lex.specs.declared.kinds.Span.{Span}
use Rattle.meson_lex.specs.Located.{located}
use Rattle.meson_lex.proofs.OneList.{one_list}
use Rattle.meson_syntax.specs.Tree.{File, Plain, erase}
use Rattle.meson_syntax.specs.Spelling.{SpellsFile}
use Rattle.meson_syntax.specs.Reads.{of_files, max_depth, Reads, IsSpanned}
use Rattle.meson_syntax.proofs.parsing.Steps.{some-injective}
use Rattle.meson_syntax.proofs.parsing.CompleteFiles.{whole-complete}
use Rattle.meson_syntax.proofs.parsing.Answers.{reads-found, found-spanned}

pub one-tree : (bytes : List ℕ) (s t : Plain) → Reads bytes s → Reads bytes t → s ≡ t
one-tree bytes s t p q =
    let items = p.spells.items in
    let are = p.spells.are_items in
    let f = reads-found of_files bytes items p.source are s p in
    let g = reads-found of_files bytes items p.source are t q in
    let same : f.0 ≡ g.0 = some-injective _ _ (sym f.2 ∙ g.2) in
    sym f.1 ∙ ap erase same ∙ g.1

pub one-spanned : (bytes : List ℕ) (f g : File Span) → IsSpanned bytes f → IsSpanned bytes g → f ≡ g
one-spanned bytes f g p q =
    let len = length bytes in
    let items = p.reads.spells.items in
    let others = q.reads.spells.items in
    let same : others ≡ items = one_list bytes others items q.reads.spells.are_items p.reads.spells.are_items in
    let stands : SpellsFile g len max_depth (located items) = subst (λ xs. SpellsFile g len max_depth (located xs)) same q.stands in
    some-injective _ _ (sym (whole-complete max_depth len (located items) f p.stands) ∙ whole-complete max_depth len (located items) g stands)

pub has-spans : (bytes : List ℕ) (t : Plain) → Reads bytes t → (f : File Span) × IsSpanned bytes f × (erase f ≡ t)
has-spans bytes t p =
    let f = reads-found of_files bytes p.spells.items p.source p.spells.are_items t p in
    (f.0, found-spanned of_files bytes p.spells.items p.source p.spells.are_items f.0 f.2, f.1)
