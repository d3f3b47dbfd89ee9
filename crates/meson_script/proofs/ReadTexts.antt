-- The tree of a text by computing: its items by `scan`, and their tree by the plain parser.
use Rattle.std.proofs.Common.{◌≡◌, ℕ, ◌+◌, ◌-◌, List, [], ◌∷◌, ◌++◌, length, take, drop, Option, Some, Result, Ok, Err, refl, sym, ap, ap₂, ◌∙◌, subst, arith}
use Rattle.std.specs.Prelude.{option_map}
use Rattle.std.proofs.lemmas.List.{drop_at, take_at}
use Rattle.meson_lex.specs.declared.kinds.Item.{Item}
use Rattle.meson_lex.specs.declared.fault.LexFault.{LexFault}
use Rattle.meson_lex.specs.declared.kinds.Span.{Span}
use Rattle.meson_lex.specs.Items.{IsItemList, Lexeme, joined}
use Rattle.meson_lex.specs.Lexed.{with_spans, whole as all_items}
use Rattle.meson_lex.specs.Located.{located}
use Rattle.meson_lex.specs.Scan.{scan}
use Rattle.meson_lex.proofs.ScanLexed.{scan_only}
use Rattle.meson_splice.specs.declared.file_set.File.{File}
use Rattle.meson_syntax.specs.declared.tree.Parsed.{Parsed}
use Rattle.meson_syntax.specs.Reads.{IsSpanned, max_depth}
use Rattle.meson_syntax.specs.inside.ReadingFiles.{whole}
use Rattle.meson_syntax.specs.Tree as tree
use Rattle.meson_syntax.specs.View.{view}
use Rattle.meson_syntax.proofs.parsing.CompleteFiles.{whole-complete}
use Rattle.meson_syntax.proofs.parsing.Steps.{some-injective}
use Rattle.meson_calls.specs.Loading.{AreParsed, IsProject, Loaded, named_trees, project, trees, views}
use Rattle.meson_calls.specs.Project.{Project}

-- ---- items

abbrev item_len : Item → ℕ
item_len i = i.span.to - i.span.from

-- a text cut into items of these lengths
abbrev cut : List ℕ → List (Result Item LexFault) → List Lexeme
cut bytes [] = []
cut bytes (Ok i ∷ more) = record { kind = i.kind; text = take (item_len i) bytes } ∷ cut (drop (item_len i) bytes) more
cut bytes (Err fault ∷ more) = []

cut-placed : (at : ℕ) (xs : List Lexeme) → cut (joined xs) (with_spans at xs) ≡ xs
cut-placed at [] = refl
cut-placed at (x ∷ xs) =
    let long : at + length x.text - at ≡ length x.text = omega arith in
    let own : take (at + length x.text - at) (x.text ++ joined xs) ≡ x.text = ap (λ n. take n (x.text ++ joined xs)) long ∙ take_at x.text (joined xs) (length x.text) refl in
    let rest : drop (at + length x.text - at) (x.text ++ joined xs) ≡ joined xs = ap (λ n. drop n (x.text ++ joined xs)) long ∙ drop_at x.text (joined xs) (length x.text) refl in
    ap₂ (λ t ls. let l : Lexeme = record { kind = x.kind; text = t } in l ∷ ls) own (ap (λ bs. cut bs (with_spans (at + length x.text) xs)) rest ∙ cut-placed (at + length x.text) xs)

cut-items : (bytes : List ℕ) (xs : List Lexeme) → IsItemList bytes xs → cut bytes (scan 0 bytes) ≡ xs
cut-items bytes xs h = ap₂ cut (sym h.joins) (sym (scan_only 0 bytes (with_spans 0 xs) (all_items xs h refl))) ∙ cut-placed 0 xs

-- ---- trees

abbrev pub read_tree : List ℕ → Option (tree.File Span)
read_tree bytes = whole max_depth (length bytes) (located (cut bytes (scan 0 bytes)))

tree-read : (bytes : List ℕ) (t : tree.File Span) → IsSpanned bytes t → read_tree bytes ≡ Some t
tree-read bytes t h =
    ap (λ xs. whole max_depth (length bytes) (located xs)) (cut-items bytes h.reads.spells.items h.reads.spells.are_items)
    ∙ whole-complete max_depth (length bytes) (located h.reads.spells.items) t h.stands

-- ---- projects of one file

views-read : (f : File) (parsed : List Parsed) → AreParsed (f ∷ []) parsed → (t : tree.File Span) × (views (f ∷ []) parsed ≡ t ∷ []) × (read_tree f.bytes ≡ Some t)
views-read f [] h = absurd h
views-read f (d ∷ []) h = (view f.bytes d, refl, tree-read f.bytes (view f.bytes d) h.0)
views-read f (d ∷ e ∷ more) h = absurd h.1

-- the file is read as a tree, and that is the project's
pub one-file : (f : File) (l : Loaded) → IsProject l → l.files ≡ f ∷ [] → (t : tree.File Span) × (trees l ≡ t ∷ []) × (read_tree f.bytes ≡ Some t)
one-file f l h is =
    let v = views-read f l.parsed (subst (λ fs. AreParsed fs l.parsed) is h.parsed) in
    (v.0, ap (λ fs. views fs l.parsed) is ∙ v.1, v.2)

-- what is computed of the tree that is read is so of the project
pub by-tree : {A : Type 0} (f : File) (what : List File → Project Span → A) (a : A) (l : Loaded) → IsProject l → l.files ≡ f ∷ []
    → option_map (λ t. what (f ∷ []) (named_trees (f ∷ []) (t ∷ []))) (read_tree f.bytes) ≡ Some a → what l.files (project l) ≡ a
by-tree f what a l h is computed =
    let o = one-file f l h is in
    ap₂ (λ fs ts. what fs (named_trees fs ts)) is o.1 ∙ some-injective _ _ (sym (ap (option_map (λ t. what (f ∷ []) (named_trees (f ∷ []) (t ∷ [])))) o.2) ∙ computed)
