-- What the plain parser's answer on the tokens of a source says of the list that the source is.
use Rattle.std.proofs.Common.{◌≡◌, ◌≢◌, ℕ, List, [], ◌∷◌, ◌++◌, length, Some, None, inl, inr, refl, sym, ap, subst, ◌∙◌, arith}
use Rattle.std.specs.Prelude.{Result, Ok, Err, IfOk, IfErr, take}
use Rattle.meson_lex.specs.declared.kinds.Span.{Span}
use Rattle.meson_lex.specs.Items.{Lexeme, joined, IsItemList}
use Rattle.meson_lex.specs.Kinds.{OfKind}
use Rattle.meson_lex.specs.Significant.{start}
use Rattle.meson_lex.specs.Located.{spots, located}
use Rattle.meson_syntax.specs.declared.fault.ParseFault.{ParseFault}
use Rattle.meson_syntax.specs.declared.fault.ParseFault.TheVariants.{TooLarge, NotUtf8, ByteOrderMark, Lex, Unexpected, TooDeep, OutOfMemory}
use Rattle.meson_syntax.specs.declared.operator.Bracket.{Bracket}
use Rattle.meson_syntax.specs.declared.operator.Bracket.TheVariants as bracket
use Rattle.meson_syntax.specs.declared.tree.List as rust
use Rattle.meson_syntax.specs.Tree.{Nowhere, Listing, listing, erase_listing}
use Rattle.meson_syntax.specs.View.{list_view}
use Rattle.meson_syntax.specs.inside.Input.{GivesAll}
use Rattle.meson_syntax.specs.inside.Nests.{IsGrammatical}
use Rattle.meson_syntax.specs.Spelling.{SpellsListing}
use Rattle.meson_syntax.specs.Paths.{inner_words}
use Rattle.meson_syntax.specs.inside.ReadingLists.{whole_list}
use Rattle.meson_syntax.specs.Reads.{mark_bytes, IsSourceWithin, IsUnreadableWithin, Is, Refuses}
use Rattle.meson_syntax.specs.ReadsList.{of_lists_within, ReadsListWithin, IsSpannedListWithin, HasNoListWithin, MayRefuseListWithin}
use Rattle.meson_syntax.proofs.parsing.Steps.{some-injective}
use Rattle.meson_syntax.proofs.parsing.Levels.{listing-level}
use Rattle.meson_syntax.proofs.parsing.Erased.{arguments-words-erased, listing-level-erased, listing-depth-erased}
use Rattle.meson_syntax.proofs.parsing.Answers.{readable}
use Rattle.meson_syntax.proofs.parsing.Refusals.{Stopped, one-unreadable}
use Rattle.meson_syntax.proofs.lists.Brackets.{open-bracket}
use Rattle.meson_syntax.proofs.lists.Sound.{whole_list-sound, all-items}
use Rattle.meson_syntax.proofs.lists.Complete.{whole_list-complete}

pub inner-erased : (l : Listing Span) → inner_words (erase_listing l) ≡ inner_words l
inner-erased (listing s trailing list) = arguments-words-erased list trailing

-- ---- a list's text begins with no byte order mark

first : List ℕ → ℕ
first [] = 0
first (c ∷ cs) = c

bracket-byte : (b : Bracket) → (open-bracket b).byte ≡ 239 → ⊥
unfolding open-bracket
bracket-byte bracket.Round e = absurd (omega arith)
bracket-byte bracket.Square e = absurd (omega arith)
bracket-byte bracket.Curly e = absurd (omega arith)

begins-bracket : (byte : ℕ) (text rest bytes : List ℕ) → text ≡ byte ∷ [] → text ++ rest ≡ bytes → take 3 bytes ≡ mark_bytes → byte ≡ 239
unfolding first
begins-bracket byte text rest bytes is joins mark =
    let all : bytes ≡ byte ∷ rest = sym joins ∙ ap (λ t. t ++ rest) is in
    ap first (sym (ap (take 3) all) ∙ mark)

list-source : (most : ℕ) (source : List ℕ) (b : Bracket) (l : Listing Nowhere) → ReadsListWithin most b source l → IsSourceWithin (of_lists_within most) source
list-source most source b l r =
    let t = r.text in
    let o = t.open_item in
    let k = open-bracket b in
    let text = k.is_text o.text (subst (λ κ. OfKind κ o.text) t.is_open t.are_items.each.0.0) in
    record {
      fits = tt;
      utf8 = r.utf8;
      no_mark = λ mark. bracket-byte b (begins-bracket k.byte o.text (joined (t.inner ++ t.close_item ∷ [])) source text t.are_items.joins mark);
    }

module _ (most : ℕ) (source : List ℕ) (b : Bracket) where
  -- ---- what is refused before the grammar is asked is no list

  pub unreadable-none : (e : ParseFault) → IsUnreadableWithin (of_lists_within most) source e → HasNoListWithin most b source
  unreadable-none e h l r =
      let t = r.text in
      readable (of_lists_within most) source (t.open_item ∷ (t.inner ++ t.close_item ∷ [])) (list-source most source b l r) t.are_items e h

  pub refused-finds : (e : ParseFault) → IsUnreadableWithin (of_lists_within most) source e → (l : Listing Nowhere) → ReadsListWithin most b source l → Is {X = rust.List} (λ x. erase_listing (list_view source x)) (Err e) l
  refused-finds e h l r = absurd (unreadable-none e h l r)

  pub refused-unreadable : (e fault : ParseFault) → IsUnreadableWithin (of_lists_within most) source e → IsUnreadableWithin (of_lists_within most) source fault → Refuses {X = rust.List} (Err e) fault
  refused-unreadable e fault h k = λ some. one-unreadable (of_lists_within most) source e fault h k

  pub refused-says : (e : ParseFault) → IsUnreadableWithin (of_lists_within most) source e → MayRefuseListWithin most b source e
  refused-says TooLarge h = h
  refused-says NotUtf8 h = h
  refused-says ByteOrderMark h = h
  refused-says (Lex f) h = h
  refused-says (Unexpected at) h = elim h [ ]
  refused-says (TooDeep at) h = elim h [ ]
  refused-says OutOfMemory h = tt

  -- ---- or where memory may have run out

  pub stopped-finds : (e : ParseFault) → Stopped (of_lists_within most) source e → (l : Listing Nowhere) → ReadsListWithin most b source l → Is {X = rust.List} (λ x. erase_listing (list_view source x)) (Err e) l
  stopped-finds e (inl memory) l r = memory
  stopped-finds e (inr h) l r = refused-finds e h l r

  pub stopped-unreadable : (e fault : ParseFault) → Stopped (of_lists_within most) source e → IsUnreadableWithin (of_lists_within most) source fault → Refuses {X = rust.List} (Err e) fault
  stopped-unreadable e fault (inl memory) k = λ some. absurd (some memory)
  stopped-unreadable e fault (inr h) k = refused-unreadable e fault h k

  pub stopped-says : (e : ParseFault) → Stopped (of_lists_within most) source e → MayRefuseListWithin most b source e
  stopped-says e (inl memory) = subst (MayRefuseListWithin most b source) (sym memory) tt
  stopped-says e (inr h) = refused-says e h

  -- ---- where the grammar was asked

  module _ (items : List Lexeme) (is : IsSourceWithin (of_lists_within most) source) (are : IsItemList source items) where
    found-spanned : (l : Listing Span) → whole_list most b (length source) (located items) ≡ Some l → IsSpannedListWithin most b source l
    found-spanned l h =
        let a = all-items source items are most b l (whole_list-sound most b (length source) (located items) l h) in
        let level = listing-level l b most (spots start 0 0 items) a.stands in
        record {
          reads = record {
            utf8 = is.utf8;
            text = record {
              open_item = a.open_item;
              inner = a.inner;
              close_item = a.close_item;
              are_items = subst (IsItemList source) a.are are;
              is_open = a.is_open;
              is_close = a.is_close;
              is_inner = a.is_inner ∙ sym (inner-erased l);
            };
            level = subst (λ A. A) (sym (listing-level-erased l b)) level.0;
            depth = rw (listing-depth-erased l) level.1;
          };
          stands = subst (λ xs. SpellsListing l b most (spots start 0 0 xs)) a.are a.stands;
        }

    pub gives-reads : (result : Result rust.List ParseFault) → GivesAll (list_view source) (whole_list most b (length source) (located items)) result → IfOk result (λ x. IsSpannedListWithin most b source (list_view source x))
    gives-reads (Ok x) h = found-spanned (list_view source x) h
    gives-reads (Err e) h = tt

    none-found : whole_list most b (length source) (located items) ≡ None → HasNoListWithin most b source
    none-found h l r = let f = whole_list-complete source items are most b l r in absurd cc

    pub gives-finds : (result : Result rust.List ParseFault) → GivesAll (list_view source) (whole_list most b (length source) (located items)) result
        → (l : Listing Nowhere) → ReadsListWithin most b source l → Is (λ x. erase_listing (list_view source x)) result l
    gives-finds (Ok x) h l r =
        let f = whole_list-complete source items are most b l r in
        ap erase_listing (some-injective _ _ (sym h ∙ f.2)) ∙ f.1
    gives-finds (Err OutOfMemory) h l r = refl
    gives-finds (Err TooLarge) h l r = absurd (none-found (h (λ e. absurd cc)) l r)
    gives-finds (Err NotUtf8) h l r = absurd (none-found (h (λ e. absurd cc)) l r)
    gives-finds (Err ByteOrderMark) h l r = absurd (none-found (h (λ e. absurd cc)) l r)
    gives-finds (Err (Lex fault)) h l r = absurd (none-found (h (λ e. absurd cc)) l r)
    gives-finds (Err (Unexpected at)) h l r = absurd (none-found (h (λ e. absurd cc)) l r)
    gives-finds (Err (TooDeep at)) h l r = absurd (none-found (h (λ e. absurd cc)) l r)

    pub gives-unreadable : (result : Result rust.List ParseFault) (e : ParseFault) → IsUnreadableWithin (of_lists_within most) source e → Refuses result e
    gives-unreadable result e h = absurd (readable (of_lists_within most) source items is are e h)

    says : (e : ParseFault) → IsGrammatical e → (e ≢ OutOfMemory → whole_list most b (length source) (located items) ≡ None) → MayRefuseListWithin most b source e
    says (Unexpected at) g h = (readable (of_lists_within most) source items is are, none-found (h (λ e. absurd cc)))
    says (TooDeep at) g h = (readable (of_lists_within most) source items is are, none-found (h (λ e. absurd cc)))
    says OutOfMemory g h = tt
    says _ g h = absurd g

    pub gives-says : (result : Result rust.List ParseFault) → GivesAll (list_view source) (whole_list most b (length source) (located items)) result → IfErr result IsGrammatical
        → IfErr result (MayRefuseListWithin most b source)
    gives-says (Ok x) h g = tt
    gives-says (Err e) h g = says e g h
