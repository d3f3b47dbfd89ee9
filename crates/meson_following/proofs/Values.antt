-- The expression at a place of a project, which is read where its file is.
use Rattle.std.proofs.Common.{◌≡◌, ℕ, ◌<◌, ◌^◌, List, ◌++◌, length, get_or, sym, subst, length-append, arith}
use Rattle.std.specs.Prelude.{Some}
use Rattle.meson_lex.specs.Significant.{Word}
use Rattle.meson_lex.specs.declared.kinds.Span.{Span}
use Rattle.meson_splice.specs.declared.file_set.File.{File}
use Rattle.meson_splice.specs.Files.{bytes_at}
use Rattle.meson_syntax.specs.declared.tree.Parsed.{Parsed}
use Rattle.meson_syntax.specs.Grammar.{expression_words}
use Rattle.meson_syntax.specs.Paths.{expression_on_path}
use Rattle.meson_syntax.specs.Tree.{Expression, erase}
use Rattle.meson_syntax.specs.View.{view}
use Rattle.meson_syntax.proofs.parsing.FileErased.{file-words-erased}
use Rattle.meson_calls.specs.Loading.{AreParsed}
use Rattle.meson_calls.specs.Strings.{AreGood}
use Rattle.meson_calls.proofs.CallsAt.{spanned_at}
use Rattle.meson_calls.proofs.GoodParts.{good_left, good_right}
use Rattle.meson_calls.proofs.GoodTexts.{text_good}
use Rattle.meson_calls.proofs.WordCounts.{file_few}
use Rattle.meson_entering.proofs.Values.{among_words}

pub value_good : (files : List File) (trees : List Parsed) (n : ℕ) (d : Parsed) (path : List ℕ) (e : Expression Span) → n < length trees → AreParsed files trees
    → Some e ≡ expression_on_path (view (bytes_at n files) (get_or trees n d)) path → AreGood (expression_words e)
value_good files trees n d path e lt are is =
    let f = view (bytes_at n files) (get_or trees n d) in
    let spanned = spanned_at files trees n d lt are in
    among_words AreGood good_left good_right f path e (sym is) (subst AreGood (file-words-erased f) (text_good (bytes_at n files) (erase f) spanned.reads.spells))

abbrev Few : List Word → Type 0
Few words = length words < 2 ^ 64

few_left : (xs ys : List Word) → Few (xs ++ ys) → Few xs
few_left xs ys few = omega (arith, length-append xs ys, few)

few_right : (xs ys : List Word) → Few (xs ++ ys) → Few ys
few_right xs ys few = omega (arith, length-append xs ys, few)

pub value_few : (files : List File) (trees : List Parsed) (n : ℕ) (d : Parsed) (path : List ℕ) (e : Expression Span) → n < length trees → AreParsed files trees
    → Some e ≡ expression_on_path (view (bytes_at n files) (get_or trees n d)) path → length (expression_words e) < 2 ^ 64
value_few files trees n d path e lt are is =
    let t = get_or trees n d in
    among_words Few few_left few_right (view (bytes_at n files) t) path e (sym is) (file_few (bytes_at n files) t (spanned_at files trees n d lt are))
