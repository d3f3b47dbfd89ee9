-- The function `is_code` says of each text whether it is an expression.
use Rattle.meson_steps.proofs.Words.{◌≡◌, ℕ, ◌+◌, List, [], ◌∷◌, ◌++◌, length, map, Option, Some, None, Result, Ok, Err, refl, sym, ap, ◌∙◌, subst, arith}
use Rattle.meson_steps.proofs.Words.{length-append, Bool, true, false, ◌&&◌, if◌then◌else◌, is_utf8, IsUtf8-from_is_utf8, is_utf8-from_IsUtf8, IsItemList}
use Rattle.meson_steps.proofs.Words.{Lexeme, IsLexed, with_spans, whole, faulty, located, spots, start, LexFault, Item, Span, one_list, read, read_one}
use Rattle.meson_steps.proofs.Words.{read-all, ReadsListWithin, plain, no_arguments, argument, Listing, listing, Nowhere, erase_listing, CodeIsExpression}
use Rattle.meson_steps.proofs.Words.{IsExpression, all_fine, code_of, given_items, in_brackets, is_lone_list, is_one, is_bare, is_lone}
use Rattle.std.proofs.Common.{IsUtf8}
use Rattle.meson_lex.specs.Scan.{scan}
use Rattle.meson_lex.proofs.ScanLexed.{scan_lexed, scan_only}
use Rattle.meson_syntax.specs.declared.operator.Bracket.TheVariants as bracket
use Rattle.meson_syntax.specs.inside.ReadingLists.{whole_list}
use Rattle.meson_syntax.proofs.lists.Answers.{inner-erased}
use Rattle.meson_syntax.proofs.lists.Complete.{whole_list-complete}
use Rattle.meson_syntax.proofs.lists.Sound.{all-items, whole_list-sound}
use Rattle.meson_syntax.proofs.parsing.Erased.{listing-depth-erased, listing-level-erased}
use Rattle.meson_syntax.proofs.parsing.Levels.{listing-level}
use Rattle.meson_steps.specs.Code.{is_code}
use Rattle.meson_steps.proofs.Bracketed.{bare, bracketed_items, complete, lone_erased, sound, tight, whole_utf8}

both : (a b : Bool) → (a && b) ≡ true → (a ≡ true) × (b ≡ true)
both true b h = (refl, h)
both false b h = absurd (let no : ⊥ = cc in no)

-- ---- items without a fault

not_fine : (at_ : ℕ) (xs : List Lexeme) (fault : LexFault) → all_fine (with_spans at_ xs ++ Err fault ∷ []) ≡ false
not_fine at_ [] fault = refl
not_fine at_ (x ∷ xs) fault = not_fine (at_ + length x.text) xs fault

spans_fine : (at_ : ℕ) (xs : List Lexeme) → all_fine (with_spans at_ xs) ≡ true
spans_fine at_ [] = refl
spans_fine at_ (x ∷ xs) = spans_fine (at_ + length x.text) xs

same_items : (text : List ℕ) (results : List (Result Item LexFault)) → given_items text results ≡ read text results
same_items text [] = refl
same_items text (Ok x ∷ more) = ap (λ xs. read_one text x ∷ xs) (same_items text more)
same_items text (Err fault ∷ more) = same_items text more

items_are : (text : List ℕ) (xs : List Lexeme) → IsItemList text xs → given_items text (scan 0 text) ≡ xs
items_are text xs list = same_items text (scan 0 text) ∙ read-all text (scan 0 text) xs (scan_lexed 0 text) list

fine_items : (text : List ℕ) → all_fine (scan 0 text) ≡ true → (xs : List Lexeme) × IsItemList text xs
fine_items text fine = go (scan_lexed 0 text)
  where
    go : IsLexed 0 text (scan 0 text) → (xs : List Lexeme) × IsItemList text xs
    go (whole xs list is) = (xs, list)
    go (faulty xs rest fault h is) = absurd (let no : ⊥ = let e = sym fine ∙ ap all_fine is ∙ not_fine 0 xs fault in cc in no)

-- ---- a list that is read

lone_found : (o : Option (Listing Span)) → is_lone_list o ≡ true → (l : Listing Span) × (o ≡ Some l) × (is_lone l ≡ true)
lone_found None h = absurd (let no : ⊥ = cc in no)
lone_found (Some l) h = (l, refl, h)

module _ (text : List ℕ) where
  abbrev all : List ℕ
  all = 91 ∷ (text ++ 93 ∷ [])

  len : length all ≡ length text + 2
  len = let n = length-append text (93 ∷ []) in omega (arith, n)

  -- a list of a text with these items
  read_list : (xs : List Lexeme) → IsUtf8 all → IsItemList all (in_brackets xs) → (l : Listing Span) → whole_list 65 bracket.Square (length all) (located (in_brackets xs)) ≡ Some l
      → ReadsListWithin 65 bracket.Square all (erase_listing l)
  read_list xs utf8 are l found =
      let items = in_brackets xs in
      let q = all-items all items are 65 bracket.Square l (whole_list-sound 65 bracket.Square (length all) (located items) l found) in
      let level = listing-level l bracket.Square 65 (spots start 0 0 items) q.stands in
      record {
        utf8 = utf8;
        text = record {
          open_item = q.open_item;
          inner = q.inner;
          close_item = q.close_item;
          are_items = subst (IsItemList all) q.are are;
          is_open = q.is_open;
          is_close = q.is_close;
          is_inner = q.is_inner ∙ sym (inner-erased l);
        };
        level = subst (λ A. A) (sym (listing-level-erased l bracket.Square)) level.0;
        depth = rw (listing-depth-erased l) level.1;
      }

  one_sound : IsUtf8 text → (xs : List Lexeme) → IsItemList text xs → is_one (length text) xs ≡ true → IsExpression text
  one_sound utf8 xs list one =
      let c = both (is_bare (map (λ (x : Lexeme). x.kind) xs)) _ one in
      let t = tight xs c.0 in
      let f = lone_found (whole_list 65 bracket.Square (length text + 2) (located (in_brackets xs))) c.1 in
      let found = ap (λ n. whole_list 65 bracket.Square n (located (in_brackets xs))) len ∙ f.1 in
      let reads = read_list xs (whole_utf8 text utf8) (bracketed_items text xs list t.1) f.0 found in
      sound text utf8 (λ ys other. ap (λ zs. is_bare (map (λ (x : Lexeme). x.kind) zs)) (one_list text ys xs other list) ∙ c.0) (erase_listing f.0) reads (lone_erased f.0 ∙ f.2)

  code_sound : is_code text ≡ true → IsExpression text
  unfolding is_code
  code_sound h =
      let a = both (is_utf8 text) _ h in
      let b = both (all_fine (scan 0 text)) _ a.1 in
      let xs = fine_items text b.0 in
      one_sound (IsUtf8-from_is_utf8 text a.0) xs.0 xs.1 (ap (is_one (length text)) (sym (items_are text xs.0 xs.1)) ∙ b.1)

  one_complete : (x : IsExpression text) → is_one (length text) x.writes.items ≡ true
  one_complete x =
      let xs = x.writes.items in
      let n = x.writes.is_new in
      let lone : Listing Nowhere = listing tt false (argument (plain x.node) no_arguments) in
      let w = whole_list-complete all (in_brackets xs) (bracketed_items text xs n.are_items n.no_remarks) 65 bracket.Square lone (complete text x) in
      ap (λ b. b && is_lone_list (whole_list 65 bracket.Square (length text + 2) (located (in_brackets xs)))) (bare xs n.tight n.no_remarks)
      ∙ ap is_lone_list (ap (λ k. whole_list 65 bracket.Square k (located (in_brackets xs))) (sym len) ∙ w.2) ∙ sym (lone_erased w.0) ∙ ap is_lone w.1

  code_complete : IsExpression text → is_code text ≡ true
  unfolding is_code
  code_complete x =
      let xs = x.writes.items in
      let list = x.writes.is_new.are_items in
      let one = is_one (length text) (given_items text (scan 0 text)) in
      let fine : all_fine (scan 0 text) ≡ true = ap all_fine (sym (scan_only 0 text (with_spans 0 xs) (whole xs list refl))) ∙ spans_fine 0 xs in
      ap (λ b. b && (all_fine (scan 0 text) && one)) (is_utf8-from_IsUtf8 text x.writes.utf8) ∙ ap (λ b. b && one) fine
      ∙ ap (is_one (length text)) (items_are text xs list) ∙ one_complete x

pub code_is_expression : CodeIsExpression
code_is_expression text = (code_sound text, code_complete text)

pub code_found : (text : List ℕ) → IsExpression text → code_of text ≡ Some text
code_found text x = ap (λ b. if b then Some text else None) (code_complete text x)

pub no_code : (text : List ℕ) → (IsExpression text → ⊥) → code_of text ≡ None
no_code text none = go (is_code text) refl
  where
    go : (b : Bool) → is_code text ≡ b → (if is_code text then Some text else None) ≡ None
    go true is = absurd (none (code_sound text is))
    go false is = ap (λ b. if b then Some text else None) is
