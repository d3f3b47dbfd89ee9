-- What is read as a list that is all of a text is that text's list.
use Rattle.std.proofs.Common.{◌≡◌, ℕ, Bool, true, false, cond, List, [], ◌∷◌, ◌++◌, length, Some, None, inl, inr, refl, sym, ap, ap₂, subst, ◌∙◌, append_assoc, length-append, arith, rules}
use Rattle.std.specs.Prelude.{◌==◌, ◌&&◌}
use Rattle.std.proofs.lemmas.List.{append-nil}
use Rattle.meson_lex.specs.declared.kinds.Span.{Span}
use Rattle.meson_lex.specs.Items.{Lexeme, joined, IsItemList, AreItems}
use Rattle.meson_lex.specs.Significant.{start, step, after}
use Rattle.meson_lex.specs.Located.{Token, words, spots, end_after, closing_at, located}
use Rattle.meson_lex.proofs.ScanItems.{no_empty}
use Rattle.meson_lex.proofs.TokenWords.{words-spots}
use Rattle.meson_lex.specs.Kinds.{OfKind}
use Rattle.meson_syntax.specs.declared.operator.Bracket.{Bracket}
use Rattle.meson_syntax.specs.Operators.{opens, closes}
use Rattle.meson_syntax.specs.Tree.{Listing}
use Rattle.meson_syntax.specs.inside.Input.{Input, Outcome, sees}
use Rattle.meson_syntax.specs.Spelling.{SpellsListing}
use Rattle.meson_syntax.specs.Paths.{list_span, inner_words}
use Rattle.meson_lex.specs.Words.{spoken}
use Rattle.meson_lex.proofs.Seams.{AreItems-split}
use Rattle.meson_syntax.specs.inside.ReadingLists.{bracketed, covers_all, list_read, whole_list}
use Rattle.meson_syntax.proofs.parsing.Steps.{Passes, chosen_at, some-injective}
use Rattle.meson_syntax.proofs.parsing.SoundRows.{listed-sound}
use Rattle.meson_syntax.proofs.places.Covers.{opens-own, closes-own, covers-from, covers-to}
use Rattle.meson_syntax.proofs.places.Elements.{list-spelled}
use Rattle.meson_syntax.proofs.places.Pairs.{cut-pair, silent-closing, joined-lengths}
use Rattle.meson_syntax.proofs.places.Spoken.{spoken-is, inner-no-line}
use Rattle.meson_syntax.proofs.lists.Cuts.{same-cut}

-- ---- what was read

-- the tokens of a list that begins at 0 and ends at the end of the text
pub record AllRead (depth : ℕ) (b : Bracket) (len : ℕ) (ts : List Token) (l : Listing Span) : Type 0 where
  pub used : List Token
  pub rest : List Token
  pub parts : ts ≡ used ++ rest
  pub spelled : SpellsListing l b depth used
  pub from : (list_span l).from ≡ 0
  pub to : (list_span l).to ≡ len

bracketed-sound : (depth : ℕ) (b : Bracket) (i : Input) (q : Listing Span × Input) → bracketed depth b i ≡ Some q → Passes (SpellsListing q.0 b depth) i q.1
unfolding bracketed
bracketed-sound depth b i q h = elim (chosen_at (sees (opens b) i) _ _ i _ h) [
  | inl w ↦ listed-sound depth b i q w.0 w.1
  | inr w ↦ absurd cc
]

both-zero : (a n m : ℕ) → ((a == 0) && (n == m)) ≡ true → (a ≡ 0) × (n ≡ m)
both-zero a n m h = (search rules, search rules)

kept_if : (b : Bool) (x y : Listing Span) → cond b (Some x) None ≡ Some y → (b ≡ true) × (x ≡ y)
kept_if true x y h = (refl, some-injective x y h)
kept_if false x y h = absurd cc

list_of-some : (len : ℕ) (r : Outcome (Listing Span)) (l : Listing Span) → list_read len r ≡ Some l
    → (q : Listing Span × Input) × (r ≡ Some q) × (q.0 ≡ l) × ((list_span l).from ≡ 0) × ((list_span l).to ≡ len)
list_of-some len None l h = absurd cc
list_of-some len (Some q) l h =
    let k = kept_if (covers_all len (list_span q.0)) q.0 l h in
    let z = both-zero (list_span q.0).from (list_span q.0).to len k.0 in
    (q, refl, k.1, subst (λ (x : Listing Span). (list_span x).from ≡ 0) k.1 z.0, subst (λ (x : Listing Span). (list_span x).to ≡ len) k.1 z.1)

pub whole_list-sound : (depth : ℕ) (b : Bracket) (len : ℕ) (ts : List Token) (l : Listing Span) → whole_list depth b len ts ≡ Some l → AllRead depth b len ts l
unfolding whole_list
whole_list-sound depth b len ts l h =
    let i : Input = record { last = 0; rest = ts } in
    let a = list_of-some len (bracketed depth b i) l h in
    let r = bracketed-sound depth b i a.0 a.1 in
    record {
      used = r.used;
      rest = a.0.1.rest;
      parts = r.took.rest;
      spelled = subst (λ (x : Listing Span). SpellsListing x b depth r.used) a.2 r.fits;
      from = a.3;
      to = a.4;
    }

-- ---- its items

none-left : (xs : List Lexeme) (rest : List ℕ) → AreItems xs rest → length (joined xs) ≡ 0 → xs ≡ []
none-left [] rest h e = refl
none-left (x ∷ xs) rest h e =
    let n = length-append x.text (joined xs) in
    absurd (no_empty x.kind (subst (OfKind x.kind) (empty x.text (omega arith)) h.0.0)) where
      empty : (t : List ℕ) → length t ≡ 0 → t ≡ []
      empty [] e = refl
      empty (c ∷ t) e = absurd (omega arith)

-- The items are the list's: its brackets, and what stands between them.
pub record AllItems (depth : ℕ) (b : Bracket) (items : List Lexeme) (l : Listing Span) : Type 0 where
  pub open_item : Lexeme
  pub inner : List Lexeme
  pub close_item : Lexeme
  pub are : items ≡ open_item ∷ (inner ++ close_item ∷ [])
  pub is_open : open_item.kind ≡ opens b
  pub is_close : close_item.kind ≡ closes b
  pub is_inner : spoken inner ≡ inner_words l
  pub stands : SpellsListing l b depth (spots start 0 0 items)

list-group : {A : Type 0} (i r : List A) (o c : A) → ((o ∷ []) ++ (i ++ (c ∷ []))) ++ r ≡ o ∷ (i ++ c ∷ r)
list-group i r o c = simp append_assoc

same-front : {A : Type 0} (a b c : List A) → a ++ c ≡ b ++ c → a ≡ b
same-front a b c e = let m = length-append a c in let n = length-append b c in let l = ap length e in let r = same-cut a c b c e (omega arith) in r.0

pub all-items : (source : List ℕ) (items : List Lexeme) → IsItemList source items → (depth : ℕ) (b : Bracket) (l : Listing Span) → AllRead depth b (length source) (located items) l → AllItems depth b items l
all-items source items are depth b l r =
    let s = list-spelled l b depth r.used r.spelled in
    let o = s.is_opening.token in
    let c = s.is_closing.token in
    let ending = closing_at (after start items).fresh (end_after 0 0 items) in
    let quiet = silent-closing (after start items).fresh (end_after 0 0 items) in
    let apart : located items ≡ [] ++ o ∷ (s.inner ++ c ∷ r.rest) =
    r.parts ∙ ap (λ x. x ++ r.rest) (s.brackets ∙ ap₂ (λ x y. x ++ (s.inner ++ y)) s.is_opening.alone s.is_closing.alone) ∙ list-group s.inner r.rest o c in
    let i = cut-pair start 0 0 items ending quiet [] o s.inner c r.rest (λ e. opens-own b (sym s.is_opening.is ∙ e)) (λ e. closes-own b (sym s.is_closing.is ∙ e)) apart in
    let begins : r.used ≡ o ∷ (s.inner ++ s.closing) = s.brackets ∙ ap (λ x. x ++ (s.inner ++ s.closing)) s.is_opening.alone in
    let ends : r.used ≡ (o ∷ s.inner) ++ c ∷ [] = s.brackets ∙ ap₂ (λ x y. x ++ (s.inner ++ y)) s.is_opening.alone s.is_closing.alone in
    let e0 = covers-from (list_span l) r.used o (s.inner ++ s.closing) s.covers begins in
    let e1 = covers-to (list_span l) r.used (o ∷ s.inner) c s.covers ends in
    let f0 = r.from in
    let f1 = r.to in
    let g0 = i.from in
    let g1 = i.to in
    let own = i.first ∷ (i.inner ++ i.last ∷ []) in
    let all : items ≡ (i.left ++ own) ++ i.right = i.parts ∙ ap (λ x. i.left ++ i.first ∷ x) (sym (append_assoc i.inner (i.last ∷ []) i.right)) ∙ sym (append_assoc i.left own i.right) in
    let n0 = joined-lengths (i.left ++ own) i.right in
    let n1 = ap (λ xs. length (joined xs)) all in
    let n2 = ap length are.joins in
    let split = AreItems-split (i.left ++ own) i.right [] (subst (λ xs. AreItems xs []) all are.each) in
    let no-left = none-left i.left _ (AreItems-split i.left own _ split.0).0 (omega arith) in
    let no-right = none-left i.right [] split.1 (omega arith) in
    let is : items ≡ own = all ∙ ap₂ (λ x y. (x ++ own) ++ y) no-left no-right ∙ append-nil own in
    let rest-is : ending ≡ r.rest = sym (ap (λ x. spots (after start (i.left ++ own)) c.to c.to x ++ ending) no-right) ∙ i.is_right in
    let used-is : spots start 0 0 items ≡ r.used = same-front (spots start 0 0 items) r.used ending (r.parts ∙ ap (λ x. r.used ++ x) (sym rest-is)) in
    record {
      open_item = i.first;
      inner = i.inner;
      close_item = i.last;
      are = is;
      is_open = sym i.is_first ∙ s.is_opening.is;
      is_close = sym i.is_last ∙ s.is_closing.is;
      is_inner = spoken-is (step (after start i.left) i.first) i.inner (inner_words l) (inner-no-line Span l)
          (sym (words-spots i.inner (step (after start i.left) i.first) o.to o.to) ∙ ap words i.is_inner ∙ s.is_inner);
      stands = subst (SpellsListing l b depth) (sym used-is) r.spelled;
    }
