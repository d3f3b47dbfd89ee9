-- What steps make of files is determined by both: a text has one item list and one tree with its places, and an edit of it one layout.
use Rattle.meson_steps.proofs.Words.{◌≡◌, ℕ, ◌+◌, List, [], ◌∷◌, ◌++◌, length, None, Result, Ok, refl, sym, ap, ap₂, ◌∙◌, subst, arith, bytes_at, patched_all}
use Rattle.meson_steps.proofs.Words.{SpliceFault, File, Splice, located, Span, one_list, layout_of, IsSourceWithin, IsSpannedWithin, SpellsFile, Limits}
use Rattle.meson_steps.proofs.Words.{whole-complete, some-injective, other_limits, primitive_of, name_of_file, Step, StepsMake, none, step, Laid, effective}
use Rattle.meson_steps.proofs.Words.{read_again}
use Rattle.meson_syntax.specs.Tree as tree

-- ---- one tree, within whatever limits

abbrev both : Limits → Limits → Limits
both a b = record { len = None; depth = a.depth + b.depth }

loose : (a b : Limits) (limits : Limits) (bytes : List ℕ) → IsSourceWithin limits bytes → IsSourceWithin (both a b) bytes
loose a b limits bytes s = record { fits = tt; utf8 = s.utf8; no_mark = s.no_mark }

one_within : (limits : Limits) (bytes : List ℕ) (f g : tree.File Span) → IsSpannedWithin limits bytes f → IsSpannedWithin limits bytes g → f ≡ g
one_within limits bytes f g p q =
    let len = length bytes in
    let items = p.reads.spells.items in
    let others = q.reads.spells.items in
    let same : others ≡ items = one_list bytes others items q.reads.spells.are_items p.reads.spells.are_items in
    let stands : SpellsFile g len limits.depth (located items) = subst (λ xs. SpellsFile g len limits.depth (located xs)) same q.stands in
    some-injective _ _ (sym (whole-complete limits.depth len (located items) f p.stands) ∙ whole-complete limits.depth len (located items) g stands)

pub one_spanned : (a b : Limits) (bytes : List ℕ) (f g : tree.File Span) → IsSpannedWithin a bytes f → IsSpannedWithin b bytes g → f ≡ g
one_spanned a b bytes f g p q =
    let m = both a b in
    one_within m bytes f g
    (other_limits a m bytes f p (loose a b a bytes p.reads.source) (omega (arith, p.reads.depth)))
    (other_limits b m bytes g q (loose a b b bytes q.reads.source) (omega (arith, q.reads.depth)))

-- ---- one layout

one_laid : (files : List File) (s : Step) (here there : List Splice) → Laid files s here → Laid files s there → here ≡ there
one_laid files s here there p q =
    let bytes = bytes_at s.file files in
    let same_file : p.file ≡ q.file = one_spanned p.limits q.limits bytes p.file q.file p.spanned q.spanned in
    let same_items : p.items ≡ q.items = one_list bytes p.items q.items p.are_items q.are_items in
    let same : p.primitive ≡ q.primitive = some-injective _ _ (sym p.is_primitive ∙ ap (λ f. primitive_of f s.edit) same_file ∙ q.is_primitive) in
    p.is_layout ∙ ap₂ (λ xs y. effective (layout_of (name_of_file s.file files) xs y)) same_items same ∙ sym q.is_layout

-- ---- one step after another

abbrev Inverted : List File → List Step → List Splice → List File → ℕ → Type 0
Inverted files [] splices last n = (splices ≡ []) × (last ≡ files) × (n ≡ 0)
Inverted files (s ∷ steps) splices last n =
    (between : List File) × (here : List Splice) × (later : List Splice) × (bytes : ℕ) × (laid : Laid files s here) × (patched_all files here ≡ Ok between) × StepsMake between steps later last bytes
    × (splices ≡ here ++ later) × (n ≡ read_again s.edit laid.file here (bytes_at s.file files) (bytes_at s.file between) + bytes)

inverted : (files : List File) (steps : List Step) (splices : List Splice) (last : List File) (n : ℕ) → StepsMake files steps splices last n → Inverted files steps splices last n
inverted files steps splices last n (none fs) = (refl, refl, refl)
inverted files steps splices last n (step fs between end s more here later bytes laid done rest) = (between, here, later, bytes, laid, done, rest, refl, refl)

same_files : (x y : List File) → ◌≡◌ {A = Result (List File) SpliceFault} (Ok x) (Ok y) → x ≡ y
same_files x y e = cc

pub one-making : (files : List File) (steps : List Step) (ss ts : List Splice) (after last : List File) (n m : ℕ) → StepsMake files steps ss after n → StepsMake files steps ts last m → (ss ≡ ts) × (after ≡ last) × (n ≡ m)
one-making files [] ss ts after last n m a b =
    let p = inverted files [] ss after n a in
    let q = inverted files [] ts last m b in
    (p.0 ∙ sym q.0, p.1 ∙ sym q.1, p.2 ∙ sym q.2)
one-making files (s ∷ steps) ss ts after last n m a b =
    let p = inverted files (s ∷ steps) ss after n a in
    let q = inverted files (s ∷ steps) ts last m b in
    let here : p.1 ≡ q.1 = one_laid files s p.1 q.1 p.4 q.4 in
    let between : p.0 ≡ q.0 = same_files p.0 q.0 (sym p.5 ∙ ap (patched_all files) here ∙ q.5) in
    let same_file : p.4.file ≡ q.4.file = one_spanned p.4.limits q.4.limits (bytes_at s.file files) p.4.file q.4.file p.4.spanned q.4.spanned in
    let count : read_again s.edit p.4.file p.1 (bytes_at s.file files) (bytes_at s.file p.0) ≡ read_again s.edit q.4.file q.1 (bytes_at s.file files) (bytes_at s.file q.0) =
    ap (λ f. read_again s.edit f p.1 (bytes_at s.file files) (bytes_at s.file p.0)) same_file
    ∙ ap₂ (λ x y. read_again s.edit q.4.file x (bytes_at s.file files) (bytes_at s.file y)) here between in
    let rest = one-making p.0 steps p.2 q.2 after last p.3 q.3 p.6 (subst (λ fs. StepsMake fs steps q.2 last q.3) (sym between) q.6) in (
      p.7 ∙ ap₂ (λ x y. x ++ y) here rest.0 ∙ sym q.7,
      rest.1,
      p.8 ∙ ap₂ (λ x y. x + y) count rest.2 ∙ sym q.8,
    )
