-- The items, the tree and the code of a text, as functions and as they are defined.
use Rattle.std.proofs.Common.{◌≡◌, ◌≢◌, ℕ, ◌+◌, Bool, true, false, not, ◌&&◌, List, [], ◌∷◌, ◌++◌, length, take, if◌then◌else◌, Option, Some, None, option_map, Result, Ok, Err, refl, sym, ap, ◌∙◌, subst}
use Rattle.std.specs.Prelude.{bytes_eq, nat_le}
use Rattle.std.specs.Str.{is_utf8, IsTrimAscii}
use Rattle.std.proofs.lemmas.Bool.{le-leb, leb-true}
use Rattle.std.proofs.lemmas.Slice.Eq.{bytes_eq-Decides}
use Rattle.std.proofs.lemmas.Str.{IsUtf8-from_is_utf8, is_utf8-from_IsUtf8}
use Rattle.std.proofs.lemmas.Str.Ascii.{trim_ascii_is}
use Rattle.meson_lex.specs.declared.fault.LexFault.{LexFault}
use Rattle.meson_lex.specs.declared.kinds.Item.{Item}
use Rattle.meson_lex.specs.Items.{Lexeme, IsItemList}
use Rattle.meson_lex.specs.Lexed.{with_spans, IsLexed, whole, faulty}
use Rattle.meson_lex.specs.Located.{located}
use Rattle.meson_lex.specs.Scan.{scan}
use Rattle.meson_lex.proofs.ScanLexed.{scan_lexed, scan_only}
use Rattle.meson_layout.proofs.ReadItems.{read, read-all}
use Rattle.meson_syntax.specs.Reads.{IsSourceWithin, Reads, mark_bytes, max_depth, max_len, of_files}
use Rattle.meson_syntax.specs.Tree.{Plain, erase}
use Rattle.meson_syntax.specs.inside.ReadingFiles as reading
use Rattle.meson_syntax.proofs.parsing.Answers.{found-spanned, reads-found}
use Rattle.meson_syntax.proofs.paths.Reaching.{map-some}
use Rattle.meson_statements.specs.Code.{IsStatements}
use Rattle.meson_statements.specs.CodeTexts.{lexemes_among, lexemes_of, LexemesAreItems, all_fine, is_source, tree_of, TreesAreRead, trimmed, has_statement, statement_code, CodeIsStatements}

-- ---- items

same_items : (text : List ℕ) (results : List (Result Item LexFault)) → lexemes_among text results ≡ read text results
same_items text [] = refl
same_items text (Ok x ∷ more) = ap (λ xs. record { kind = x.kind; text = Rattle.std.specs.Prelude.slice_range text x.span.from x.span.to } ∷ xs) (same_items text more)
same_items text (Err fault ∷ more) = same_items text more

pub lexemes-are-items : LexemesAreItems
lexemes-are-items text xs list = same_items text (scan 0 text) ∙ read-all text (scan 0 text) xs (scan_lexed 0 text) list

not_fine : (at_ : ℕ) (xs : List Lexeme) (fault : LexFault) → all_fine (with_spans at_ xs ++ Err fault ∷ []) ≡ false
not_fine at_ [] fault = refl
not_fine at_ (x ∷ xs) fault = not_fine (at_ + length x.text) xs fault

spans_fine : (at_ : ℕ) (xs : List Lexeme) → all_fine (with_spans at_ xs) ≡ true
spans_fine at_ [] = refl
spans_fine at_ (x ∷ xs) = spans_fine (at_ + length x.text) xs

fine_items : (text : List ℕ) → all_fine (scan 0 text) ≡ true → (xs : List Lexeme) × IsItemList text xs
fine_items text fine = go (scan_lexed 0 text)
  where
    go : IsLexed 0 text (scan 0 text) → (xs : List Lexeme) × IsItemList text xs
    go (whole xs list is) = (xs, list)
    go (faulty xs rest fault h is) = absurd (let no : ⊥ = let e = sym fine ∙ ap all_fine is ∙ not_fine 0 xs fault in cc in no)

items_fine : (text : List ℕ) (xs : List Lexeme) → IsItemList text xs → all_fine (scan 0 text) ≡ true
items_fine text xs list = ap all_fine (sym (scan_only 0 text (with_spans 0 xs) (whole xs list refl))) ∙ spans_fine 0 xs

-- ---- trees

both : (a b : Bool) → (a && b) ≡ true → (a ≡ true) × (b ≡ true)
both true b h = (refl, h)
both false b h = absurd (let no : ⊥ = cc in no)

not-false : (b : Bool) → not b ≡ true → b ≡ false
not-false true h = cc
not-false false h = refl

other_bytes : (a b : List ℕ) → bytes_eq a b ≡ false → a ≢ b
other_bytes a b h same = let is = (bytes_eq-Decides a b).1 same in let no : ⊥ = cc in no

no_bytes : (a b : List ℕ) → a ≢ b → (t : Bool) → bytes_eq a b ≡ t → not t ≡ true
no_bytes a b other true is = absurd (other ((bytes_eq-Decides a b).0 is))
no_bytes a b other false is = refl

module _ (text : List ℕ) where
  record Sound : Type 0 where
    items : List Lexeme
    are : IsItemList text items
    is : IsSourceWithin of_files text

  source_sound : is_source text ≡ true → Sound
  source_sound h =
      let a = both (nat_le (length text) max_len) _ h in
      let b = both (is_utf8 text) _ a.1 in
      let c = both (not (bytes_eq (take 3 text) mark_bytes)) _ b.1 in
      let xs = fine_items text c.1 in
      record {
        items = xs.0;
        are = xs.1;
        is = record {
          fits = leb-true (length text) max_len a.0;
          utf8 = IsUtf8-from_is_utf8 text b.0;
          no_mark = other_bytes (take 3 text) mark_bytes (not-false _ c.0);
        };
      }

  source_complete : (t : Plain) → Reads text t → is_source text ≡ true
  source_complete t r =
      let s = r.source in
      let fine = items_fine text r.spells.items r.spells.are_items in
      let fits = le-leb (length text) max_len s.fits in
      let unmarked = no_bytes (take 3 text) mark_bytes s.no_mark (bytes_eq (take 3 text) mark_bytes) refl in
      ap (λ b. b && (is_utf8 text && (not (bytes_eq (take 3 text) mark_bytes) && all_fine (scan 0 text)))) fits
      ∙ ap (λ b. b && (not (bytes_eq (take 3 text) mark_bytes) && all_fine (scan 0 text))) (is_utf8-from_IsUtf8 text s.utf8)
      ∙ ap (λ b. b && all_fine (scan 0 text)) unmarked ∙ fine

  tree_sound : (t : Plain) (b : Bool) → is_source text ≡ b → (if b then option_map erase (reading.whole max_depth (length text) (located (lexemes_of text))) else None) ≡ Some t → Reads text t
  tree_sound t true is h =
      let s = source_sound is in
      let m = map-some erase (reading.whole max_depth (length text) (located (lexemes_of text))) t h in
      let found = ap (λ xs. reading.whole max_depth (length text) (located xs)) (sym (lexemes-are-items text s.items s.are)) ∙ m.1 in
      subst (Reads text) m.2 (found-spanned of_files text s.items s.is s.are m.0 found).reads
  tree_sound t false is h = absurd (let no : ⊥ = cc in no)

  tree_complete : (t : Plain) → Reads text t → tree_of text ≡ Some t
  unfolding tree_of
  tree_complete t r =
      let items = r.spells.items in
      let are = r.spells.are_items in
      let f = reads-found of_files text items r.source are t r in
      ap (λ b. if b then option_map erase (reading.whole max_depth (length text) (located (lexemes_of text))) else None) (source_complete t r)
      ∙ ap (λ xs. option_map erase (reading.whole max_depth (length text) (located xs))) (lexemes-are-items text items are)
      ∙ ap (option_map erase) f.2 ∙ ap Some f.1

  tree_read : (t : Plain) → tree_of text ≡ Some t → Reads text t
  unfolding tree_of
  tree_read t h = tree_sound t (is_source text) refl h

  -- ---- code

  code_sound : (o : Option Plain) → tree_of text ≡ o → has_statement o ≡ true → IsStatements text
  code_sound None is h = absurd (let no : ⊥ = cc in no)
  code_sound (Some t) is h = record { tree = t; reads = tree_read t is; some = not-false _ h }

  code_complete : IsStatements text → has_statement (tree_of text) ≡ true
  code_complete x = ap has_statement (tree_complete x.tree x.reads) ∙ ap not x.some

pub trees-are-read : TreesAreRead
trees-are-read text t = (tree_read text t, tree_complete text t)

pub code-is-statements : CodeIsStatements
code-is-statements text = (code_sound text (tree_of text) refl, code_complete text)

-- the code of a text with these ends
pub code_found : (text code : List ℕ) → IsTrimAscii text code → IsStatements code → statement_code text ≡ Some code
code_found text code trims x =
    let same : code ≡ trimmed text = trim_ascii_is text code _ refl trims in
    ap (λ b. if b then Some (trimmed text) else None) (code_complete (trimmed text) (subst IsStatements same x)) ∙ ap Some (sym same)

pub no_code : (text code : List ℕ) → IsTrimAscii text code → (IsStatements code → ⊥) → statement_code text ≡ None
no_code text code trims none =
    let same : code ≡ trimmed text = trim_ascii_is text code _ refl trims in
    go same (has_statement (tree_of (trimmed text))) refl
  where
    go : code ≡ trimmed text → (b : Bool) → has_statement (tree_of (trimmed text)) ≡ b → statement_code text ≡ None
    go same true is = absurd (none (subst IsStatements (sym same) (code_sound (trimmed text) (tree_of (trimmed text)) refl is)))
    go same false is = ap (λ b. if b then Some (trimmed text) else None) is
