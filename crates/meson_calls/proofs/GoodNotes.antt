-- Notes of trees whose strings are of their kinds.
use Rattle.meson_calls.proofs.Words.{cons_option, option_map, rules, ◌≡◌, ℕ, zero, suc, ◌+◌, ◌<◌, List, [], ◌∷◌, ◌++◌, length, get_or, arith, sym, subst, File}
use Rattle.meson_calls.proofs.Words.{Span, IsSpanned, call, assign, iteration, erase, name_at, expr_view, list_view, view, Parsed, file-words-erased, AreParsed}
use Rattle.meson_calls.proofs.Words.{named_trees, views, Note, note_of, noted, notes, note_view, note_views, Part, parts_from, parts_of_file, Placed, placed}
use Rattle.meson_calls.proofs.Words.{AreGood, PartsGood, NotesGood, note_words, part_words, CallRef}
use Rattle.meson_syntax.specs.declared.tree.Expr.TheVariants as expr
use Rattle.meson_syntax.specs.declared.tree.List as rust
use Rattle.meson_syntax.specs.declared.tree.Arg.TheFolds.{the_lemmas}
use Rattle.meson_calls.specs.declared.note.Note as code
use Rattle.meson_calls.specs.Parts.{an_expression, a_statement}
use Rattle.meson_calls.proofs.GoodParts.{file_good}
use Rattle.meson_calls.proofs.GoodTexts.{text_good}

pub call_view : (source : List ℕ) (s x : Span) (l : rust.List) → expr_view source (expr.Call s x l) ≡ call s (name_at source x) (list_view source l)
call_view source s x l = search (rules, the_lemmas)

pub good_at : (ns : List code.Note) (i : ℕ) (d : code.Note) → i < length ns → NotesGood (note_views ns) → AreGood (note_words (note_view (get_or ns i d)).it)
good_at [] i d within good = absurd (omega arith)
good_at (n ∷ ns) zero d within good = good.0
good_at (n ∷ ns) (suc i) d within good = let below : i < length ns = omega arith in good_at ns i d below good.1

note_good : (q : Part Span) (p : CallRef) (ns : List (Placed (Note Span))) → AreGood (part_words q) → NotesGood ns → NotesGood (cons_option (option_map (placed p) (note_of q)) ns)
note_good (an_expression (call s x l)) p ns good rest = (good.1, rest)
note_good (an_expression _) p ns good rest = rest
note_good (a_statement (assign s x a e)) p ns good rest = (good.1.1, rest)
note_good (a_statement (iteration s xs e b)) p ns good rest = (tt, rest)
note_good (a_statement _) p ns good rest = rest

noted_good : (ps : List (Placed (Part Span))) → PartsGood ps → NotesGood (noted ps)
noted_good [] good = tt
noted_good (q ∷ ps) good = note_good q.it q.place (noted ps) good.0 (noted_good ps good.1)

both : (xs ys : List (Placed (Part Span))) → PartsGood xs → PartsGood ys → PartsGood (xs ++ ys)
both [] ys a b = b
both (x ∷ xs) ys a b = (a.0, both xs ys a.1 b)

pub parts_good : (n : ℕ) (files : List File) (parsed : List Parsed) → AreParsed files parsed → PartsGood (parts_from n (named_trees files (views files parsed)))
parts_good n [] parsed are = tt
parts_good n (f ∷ files) [] are = absurd are
parts_good n (f ∷ files) (t ∷ parsed) are =
    both (parts_of_file n (view f.bytes t)) (parts_from (n + 1) (named_trees files (views files parsed)))
    (file_good n (view f.bytes t) (subst AreGood (file-words-erased (view f.bytes t)) (text_good f.bytes (erase (view f.bytes t)) are.0.reads.spells)))
    (parts_good (n + 1) files parsed are.1)

-- the notes of a project
pub project_good : (files : List File) (parsed : List Parsed) → AreParsed files parsed → NotesGood (notes (named_trees files (views files parsed)))
project_good files parsed are = noted_good (parts_from 0 (named_trees files (views files parsed))) (parts_good 0 files parsed are)

pub taken_good : (files : List File) (parsed : List Parsed) → AreParsed files parsed → (taken : List (Placed (Note Span))) → taken ≡ notes (named_trees files (views files parsed)) → NotesGood taken
taken_good files parsed are taken is = subst NotesGood (sym is) (project_good files parsed are)

-- those of one file
pub tree_good : (bytes : List ℕ) (t : Parsed) → IsSpanned bytes (view bytes t) → NotesGood (noted (parts_of_file 0 (view bytes t)))
tree_good bytes t spanned =
    noted_good (parts_of_file 0 (view bytes t)) (file_good 0 (view bytes t) (subst AreGood (file-words-erased (view bytes t)) (text_good bytes (erase (view bytes t)) spanned.reads.spells)))
