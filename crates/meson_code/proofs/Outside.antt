-- The span of a statement, and the texts outside it.
use Rattle.std.proofs.Common.{◌≡◌, ℕ, ◌<◌, ◌≤◌, List, [], ◌∷◌, Option, Some, None, get_or, drop, length, take, sym, ap, ◌∙◌, refl}
use Rattle.std.specs.Prelude.{Bool, true, false, ◌==◌, ◌||◌, if◌then◌else◌, option_map, unwrap_or}
use Rattle.std.specs.List.{list_any}
use Rattle.meson_lex.specs.declared.kinds.Span.{Span}
use Rattle.meson_splice.specs.declared.file_set.File.{File}
use Rattle.meson_splice.specs.Files.{bytes_at}
use Rattle.meson_syntax.specs.View.{view}
use Rattle.meson_syntax.specs.declared.tree.Parsed.{Parsed}
use Rattle.meson_edit.specs.Places.{span_of_statement}
use Rattle.meson_edit.specs.Standing.{statement_span}
use Rattle.meson_calls.specs.Loading.{AreParsed, loaded_from}
use Rattle.meson_calls.proofs.CallsAt.{spanned_at}
use Rattle.meson_calls.proofs.Loads.{as_many}
use Rattle.meson_targets.specs.TargetEdits.{StatementPlace}
use Rattle.meson_code.specs.Removal.{no_span, span_at, texts_beside}
use Rattle.meson_code.proofs.Sides.{span-within}
use Rattle.meson_code.proofs.WithValue.{found_there, none_there}

-- ---- the span

module _ (files : List File) (trees : List Parsed) (are : AreParsed files trees) (a : StatementPlace) where
  abbrev file : ℕ
  file = a.block.file

  pub no_file : length trees ≤ file → no_span ≡ span_at (loaded_from files trees) a
  no_file past = sym (ap (λ o. unwrap_or (option_map statement_span o) no_span) (none_there files trees a past))

  module _ (d : Parsed) (within : file < length trees) where
    span_is : (o : Option Span) → o ≡ span_of_statement (view (bytes_at file files) (get_or trees file d)) a.block.path.steps a.number
        → unwrap_or o no_span ≡ span_at (loaded_from files trees) a
    span_is o is = ap (λ p. unwrap_or p no_span) (is ∙ sym (ap (option_map statement_span) (found_there files trees a d (as_many files trees are) within)))

    pub span_some : (s : Span) → Some s ≡ span_of_statement (view (bytes_at file files) (get_or trees file d)) a.block.path.steps a.number → s ≡ span_at (loaded_from files trees) a
    span_some s is = span_is (Some s) is

    pub span_none : None ≡ span_of_statement (view (bytes_at file files) (get_or trees file d)) a.block.path.steps a.number → no_span ≡ span_at (loaded_from files trees) a
    span_none is = span_is None is

    pub span_fits : (s : Span) → Some s ≡ span_of_statement (view (bytes_at file files) (get_or trees file d)) a.block.path.steps a.number
        → (s.from ≤ s.to) × (s.to ≤ length (bytes_at file files))
    span_fits s is = span-within (bytes_at file files) (view (bytes_at file files) (get_or trees file d)) (spanned_at files trees file d within are) a.block.path.steps a.number s (sym is)

-- ---- the texts

or_false : (b : Bool) → (b || false) ≡ b
or_false true = refl
or_false false = refl

module _ (p : List ℕ → Bool) (file : ℕ) (s : Span) (n : ℕ) (bytes : List ℕ) where
  pub other_file : (n == file) ≡ false → p bytes ≡ list_any p (texts_beside file s n bytes)
  other_file is = sym (or_false (p bytes)) ∙ sym (ap (λ b. list_any p (if b then take s.from bytes ∷ drop s.to bytes ∷ [] else bytes ∷ [])) is)

  own : (n == file) ≡ true → list_any p (texts_beside file s n bytes) ≡ (p (take s.from bytes) || p (drop s.to bytes))
  own is =
      ap (λ b. list_any p (if b then take s.from bytes ∷ drop s.to bytes ∷ [] else bytes ∷ [])) is
      ∙ ap (λ b. p (take s.from bytes) || b) (or_false (p (drop s.to bytes)))

  pub before_it : (n == file) ≡ true → p (take s.from bytes) ≡ true → true ≡ list_any p (texts_beside file s n bytes)
  before_it is holds = sym (own is ∙ ap (λ b. b || p (drop s.to bytes)) holds)

  pub after_it : (n == file) ≡ true → p (take s.from bytes) ≡ false → p (drop s.to bytes) ≡ list_any p (texts_beside file s n bytes)
  after_it is holds = sym (own is ∙ ap (λ b. b || p (drop s.to bytes)) holds)
