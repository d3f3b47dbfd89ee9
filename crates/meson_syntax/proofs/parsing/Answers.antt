-- What the plain parser's answer on the tokens of a source says of its trees.
use Rattle.std.proofs.Common.{◌≡◌, ◌≢◌, ℕ, ◌+◌, List, [], ◌∷◌, ◌++◌, length, Option, Some, None, refl, sym, ap, subst, ◌∙◌, arith}
use Rattle.std.specs.Prelude.{Result, Ok, Err, IfOk}
use Rattle.meson_lex.specs.declared.kinds.Span.{Span}
use Rattle.meson_lex.specs.declared.fault.LexFault.{LexFault}
use Rattle.meson_lex.specs.Items.{Lexeme, IsItemList}
use Rattle.meson_lex.specs.Lexed.{with_spans}
use Rattle.meson_lex.specs.Lexed.{whole as all_items, faulty}
use Rattle.meson_lex.specs.declared.kinds.Item.{Item}
use Rattle.meson_lex.specs.Significant.{significant}
use Rattle.meson_lex.specs.Located.{located, words}
use Rattle.meson_lex.proofs.TokenWords.{words-located}
use Rattle.meson_lex.proofs.OneList.{one_list}
use Rattle.meson_lex.proofs.ScanLexed.{one_lexed}
use Rattle.meson_syntax.specs.declared.fault.ParseFault.{ParseFault}
use Rattle.meson_syntax.specs.declared.fault.ParseFault.TheVariants.{TooLarge, NotUtf8, ByteOrderMark, Lex, Unexpected, TooDeep, OutOfMemory}
use Rattle.meson_syntax.specs.declared.tree.Parsed.{Parsed}
use Rattle.meson_syntax.specs.Tree.{File, Plain, erase}
use Rattle.meson_syntax.specs.View.{view}
use Rattle.meson_syntax.specs.inside.Input.{GivesAll}
use Rattle.meson_syntax.specs.inside.Nests.{IsGrammatical}
use Rattle.meson_syntax.specs.inside.ReadingFiles.{whole}
use Rattle.meson_syntax.specs.Spelling.{SpellsFile}
use Rattle.meson_syntax.specs.Grammar.{file_words}
use Rattle.meson_syntax.specs.Reads.{Fits, Exceeds, IsSourceWithin, ReadsWithin, IsSpannedWithin, IsUnreadableWithin, HasNoTreeWithin, MayRefuseWithin, Is, Refuses}
use Rattle.meson_syntax.specs.declared.source.Limits.{Limits}
use Rattle.meson_syntax.specs.Reads.{too_large, not_utf8, marked, lexical}
use Rattle.meson_syntax.proofs.parsing.Steps.{some-injective}
use Rattle.meson_syntax.proofs.parsing.SoundFiles.{whole-sound}
use Rattle.meson_syntax.proofs.parsing.CompleteFiles.{whole-complete}
use Rattle.meson_syntax.proofs.parsing.FileWords.{file-words}
use Rattle.meson_syntax.proofs.parsing.Levels.{file-level}
use Rattle.meson_syntax.proofs.parsing.FileErased.{file-words-erased, file-level-erased, file-depth-erased}
use Rattle.meson_syntax.proofs.parsing.FilePlacing.{place-file}

-- items have no fault among them
pub no-fault : (at : ℕ) (xs : List Lexeme) (front : List (Result Item LexFault)) (fault : LexFault) → with_spans at xs ≡ front ++ Err fault ∷ [] → ⊥
no-fault at [] [] fault e = absurd cc
no-fault at [] (r ∷ front) fault e = absurd cc
no-fault at (x ∷ xs) [] fault e = absurd cc
no-fault at (x ∷ xs) (r ∷ front) fault e = no-fault (at + length x.text) xs front fault cc

-- no text has at most so many bytes and more
pub not-both : (most : Option ℕ) (len : ℕ) → Fits most len → Exceeds most len → ⊥
not-both None len f e = e
not-both (Some n) len f e = omega arith

module _ (limits : Limits) (source : List ℕ) (items : List Lexeme) (is : IsSourceWithin limits source) (are : IsItemList source items) where
  -- the tree that the tokens spell is the text's
  pub spelled-reads : (f : File Span) → SpellsFile f (length source) limits.depth (located items) → ReadsWithin limits source (erase f)
  spelled-reads f h =
      let l = file-level f (length source) limits.depth (located items) h in
      record {
        source = is;
        spells = record {
          items = items;
          are_items = are;
          words = sym (words-located items) ∙ file-words f (length source) limits.depth (located items) h ∙ sym (file-words-erased f);
          level = subst (λ A. A) (sym (file-level-erased f)) l.0;
        };
        depth = rw (file-depth-erased f) l.1;
      }

  pub spelled-spanned : (f : File Span) → SpellsFile f (length source) limits.depth (located items) → IsSpannedWithin limits source f
  unfolding spelled-reads
  spelled-spanned f h = record { reads = spelled-reads f h; stands = h }

  -- what is read is a tree of the text
  pub found-spanned : (f : File Span) → whole limits.depth (length source) (located items) ≡ Some f → IsSpannedWithin limits source f
  found-spanned f h = spelled-spanned f (whole-sound limits.depth (length source) (located items) f h)

  -- a tree of the text is read
  pub reads-found : (p : Plain) → ReadsWithin limits source p → (f : File Span) × (erase f ≡ p) × (whole limits.depth (length source) (located items) ≡ Some f)
  reads-found p r =
      let same : r.spells.items ≡ items = one_list source r.spells.items items r.spells.are_items are in
      let spelled : words (located items) ≡ file_words p = words-located items ∙ ap significant (sym same) ∙ r.spells.words in
      let f = place-file p (length source) limits.depth (located items) r.spells.level r.depth spelled in
      (f.0, f.1, whole-complete limits.depth (length source) (located items) f.0 f.2)

  pub none-none : whole limits.depth (length source) (located items) ≡ None → HasNoTreeWithin limits source
  none-none h p r = let f = reads-found p r in absurd cc

  -- ---- the clauses of a function that answers what the plain parser does

  pub gives-reads : (result : Result Parsed ParseFault) → GivesAll (view source) (whole limits.depth (length source) (located items)) result → IfOk result (λ p. IsSpannedWithin limits source (view source p))
  gives-reads (Ok p) h = found-spanned (view source p) h
  gives-reads (Err e) h = tt

  pub gives-finds : (result : Result Parsed ParseFault) → GivesAll (view source) (whole limits.depth (length source) (located items)) result
      → (t : Plain) → ReadsWithin limits source t → Is (λ p. erase (view source p)) result t
  gives-finds (Ok p) h t r =
      let f = reads-found t r in
      let same : view source p ≡ f.0 = some-injective _ _ (sym h ∙ f.2) in
      ap erase same ∙ f.1
  gives-finds (Err OutOfMemory) h t r = refl
  gives-finds (Err TooLarge) h t r = let f = reads-found t r in let none = h (λ e. absurd cc) in absurd cc
  gives-finds (Err NotUtf8) h t r = let f = reads-found t r in let none = h (λ e. absurd cc) in absurd cc
  gives-finds (Err ByteOrderMark) h t r = let f = reads-found t r in let none = h (λ e. absurd cc) in absurd cc
  gives-finds (Err (Lex fault)) h t r = let f = reads-found t r in let none = h (λ e. absurd cc) in absurd cc
  gives-finds (Err (Unexpected at)) h t r = let f = reads-found t r in let none = h (λ e. absurd cc) in absurd cc
  gives-finds (Err (TooDeep at)) h t r = let f = reads-found t r in let none = h (λ e. absurd cc) in absurd cc

  -- ---- refusals

  -- a text of items is refused by nothing that comes before the grammar
  pub readable : (e : ParseFault) → IsUnreadableWithin limits source e → ⊥
  readable TooLarge (too_large large) = not-both limits.len (length source) is.fits large
  readable NotUtf8 (not_utf8 fits other) = other is.utf8
  readable ByteOrderMark (marked fits utf8 mark) = is.no_mark mark
  readable (Lex fault) (lexical xs rest other large has) =
      no-fault 0 items (with_spans 0 xs) other
      (one_lexed 0 source (with_spans 0 items) (with_spans 0 xs ++ Err other ∷ []) (all_items items are refl) (faulty xs rest other has refl))
  readable (Unexpected at) h = elim h [ ]
  readable (TooDeep at) h = elim h [ ]
  readable OutOfMemory h = elim h [ ]

  pub gives-unreadable : (result : Result Parsed ParseFault) (e : ParseFault) → IsUnreadableWithin limits source e → Refuses result e
  gives-unreadable result e h = absurd (readable e h)

  -- a refusal by the grammar says that there is no tree
  pub gives-refused : (e : ParseFault) → IsGrammatical e → (e ≢ OutOfMemory → whole limits.depth (length source) (located items) ≡ None) → MayRefuseWithin limits source e
  gives-refused (Unexpected at) g h = (readable, none-none (h (λ e. absurd cc)))
  gives-refused (TooDeep at) g h = (readable, none-none (h (λ e. absurd cc)))
  gives-refused OutOfMemory g h = tt
  gives-refused _ g h = absurd g
