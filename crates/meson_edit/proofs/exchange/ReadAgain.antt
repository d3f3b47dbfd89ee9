-- Where a list's bytes are exchanged for another list's text, the new text reads as the tree with the other list: it is UTF-8, and begins with no byte order mark.
use Rattle.meson_edit.proofs.Words.{◌≡◌, ◌≢◌, ℕ, ◌+◌, ◌<◌, List, [], ◌∷◌, ◌++◌, length, Some, refl, sym, ap, subst, ◌∙◌, append_assoc, length-append, arith}
use Rattle.meson_edit.proofs.Words.{take, drop, get_or, Err, IsUtf8, get_or-append_seam, take-append_seam, drop-append-add, IsUtf8-append, IsUtf8-take}
use Rattle.meson_edit.proofs.Words.{IsUtf8-drop, IsCharBoundary-before_ascii, IsCharBoundary-after_ascii, HasItemsThenFault, other, Lexeme, joined, IsItemList}
use Rattle.meson_edit.proofs.Words.{AreItems, OfKind, with_spans, faulty, Span, joined-append, AreItems-split, ListAt, list_at, mark_bytes, IsSpannedWithin}
use Rattle.meson_edit.proofs.Words.{File, Bracket, Limits, listed, ListsReadAgain}
use Rattle.meson_lex.specs.declared.fault.LexFault.TheVariants.{StrayByte}
use Rattle.meson_lex.specs.Lexed.{whole as all_items}
use Rattle.meson_lex.proofs.ScanLexed.{one_lexed}
use Rattle.meson_syntax.specs.declared.operator.Bracket.TheVariants as bracket
use Rattle.meson_syntax.proofs.parsing.Answers.{no-fault}
use Rattle.meson_syntax.proofs.lists.Brackets.{open-bracket, close-bracket}
use Rattle.meson_edit.proofs.exchange.Lists.{joined-list, place, cut-is, lists-exchange}

-- ---- no byte order mark

-- no item begins with its first byte
mark-stray : (bytes : List ℕ) → take 3 bytes ≡ mark_bytes → HasItemsThenFault 0 bytes [] bytes (StrayByte 0)
mark-stray [] h = absurd cc
mark-stray (c ∷ bytes) h =
    let is : 239 ≡ c = cc in
    subst (λ d. HasItemsThenFault 0 (d ∷ bytes) [] (d ∷ bytes) (StrayByte 0)) is
    (record { joins = refl; each = tt; at_front = (refl, other 239 bytes refl (λ e. absurd (omega (arith, e)))) })

pub no-mark : (bytes : List ℕ) (items : List Lexeme) → IsItemList bytes items → take 3 bytes ≢ mark_bytes
no-mark bytes items are h =
    no-fault 0 items [] (StrayByte 0) (one_lexed 0 bytes (with_spans 0 items) ([] ++ Err (StrayByte 0) ∷ []) (all_items items are refl) (faulty [] bytes (StrayByte 0) (mark-stray bytes h) refl))

-- ---- UTF-8 on both sides of a stretch whose first and last byte are ASCII characters

record Sides (front back : List ℕ) : Type 0 where
  before : IsUtf8 front
  behind : IsUtf8 back

front-utf8 : (bytes front : List ℕ) (b : ℕ) (rest : List ℕ) → bytes ≡ front ++ b ∷ rest → b < 128 → IsUtf8 bytes → IsUtf8 front
front-utf8 bytes front b rest e small u =
    let n = length-append front (b ∷ rest) in
    let l = ap length e in
    let seam : get_or bytes (length front) 0 ≡ b = ap (λ bs. get_or bs (length front) 0) e ∙ get_or-append_seam front b rest 0 in
    subst IsUtf8 (ap (take (length front)) e ∙ take-append_seam front (b ∷ rest))
    (IsUtf8-take bytes (length front) u (IsCharBoundary-before_ascii bytes (length front) (omega arith) (omega arith)))

back-utf8 : (bytes front : List ℕ) (c : ℕ) (back : List ℕ) → bytes ≡ front ++ c ∷ back → c < 128 → IsUtf8 bytes → IsUtf8 back
back-utf8 bytes front c back e small u =
    let n = length-append front (c ∷ back) in
    let l = ap length e in
    let seam : get_or bytes (length front) 0 ≡ c = ap (λ bs. get_or bs (length front) 0) e ∙ get_or-append_seam front c back 0 in
    subst IsUtf8 (ap (drop (length front + 1)) e ∙ drop-append-add front (c ∷ back) 1)
    (IsUtf8-drop bytes (length front + 1) u (IsCharBoundary-after_ascii bytes (length front) u (omega arith) (omega arith)))

open-small : (b : Bracket) → (open-bracket b).byte < 128
unfolding open-bracket
open-small bracket.Round = omega arith
open-small bracket.Square = omega arith
open-small bracket.Curly = omega arith

close-small : (b : Bracket) → (close-bracket b).byte < 128
unfolding close-bracket
close-small bracket.Round = omega arith
close-small bracket.Square = omega arith
close-small bracket.Curly = omega arith

last-group : {A : Type 0} (l m : List A) (c : A) (r : List A) → l ++ ((m ++ ((c ∷ []) ++ [])) ++ r) ≡ (l ++ m) ++ c ∷ r
last-group l m c r = simp append_assoc

module _ (limits : Limits) (bytes : List ℕ) (f : File Span) (s : IsSpannedWithin limits bytes f) (path : List ℕ) (p : ListAt Span) (is : list_at f path ≡ Some p) where
  sides : Sides (joined (place limits bytes f s path p is).left) (joined (place limits bytes f s path p is).right)
  sides =
      let q = place limits bytes f s path p is in
      let o = q.open_item in
      let c = q.close_item in
      let k = open-bracket p.bracket in
      let m = close-bracket p.bracket in
      let each = subst (λ xs. AreItems xs []) q.parts s.reads.spells.are_items.each in
      let a = AreItems-split q.left (o ∷ (q.inner ++ c ∷ q.right)) [] each in
      let b = AreItems-split q.inner (c ∷ q.right) [] a.1.1 in
      let o-text = k.is_text o.text (subst (λ κ. OfKind κ o.text) q.is_open a.1.0.0) in
      let c-text = m.is_text c.text (subst (λ κ. OfKind κ c.text) q.is_close b.1.0.0) in
      let whole : bytes ≡ joined q.left ++ (joined (listed o q.inner c []) ++ joined q.right) =
      sym s.reads.spells.are_items.joins ∙ ap joined q.parts ∙ joined-list q.left o q.inner c q.right in
      let first : bytes ≡ joined q.left ++ k.byte ∷ (joined (q.inner ++ c ∷ []) ++ joined q.right) =
      whole ∙ ap (λ t. joined q.left ++ ((t ++ joined (q.inner ++ c ∷ [])) ++ joined q.right)) o-text in
      let last : bytes ≡ (joined q.left ++ joined (o ∷ q.inner)) ++ m.byte ∷ joined q.right =
      whole ∙ ap (λ t. joined q.left ++ (t ++ joined q.right)) (joined-append (o ∷ q.inner) (c ∷ []) ∙ ap (λ t. joined (o ∷ q.inner) ++ (t ++ [])) c-text)
      ∙ last-group (joined q.left) (joined (o ∷ q.inner)) m.byte (joined q.right) in
      record {
        before = front-utf8 bytes (joined q.left) k.byte (joined (q.inner ++ c ∷ []) ++ joined q.right) first (open-small p.bracket) s.reads.source.utf8;
        behind = back-utf8 bytes (joined q.left ++ joined (o ∷ q.inner)) m.byte (joined q.right) last (close-small p.bracket) s.reads.source.utf8;
      }

pub read-again : ListsReadAgain
read-again limits bytes f s path p is q plain-is l text t level front was back parts from to utf8 fits depth =
    let spells = lists-exchange limits bytes f s path p is q plain-is l text t level front was back parts from to in
    let cut = cut-is limits bytes f s path p is front was back parts from to in
    let around = sides limits bytes f s path p is in
    record {
      source = record {
        fits = fits;
        utf8 = IsUtf8-append front (text ++ back) (subst IsUtf8 (sym cut.0) around.before) (IsUtf8-append text back utf8 (subst IsUtf8 (sym cut.1) around.behind));
        no_mark = no-mark (front ++ (text ++ back)) spells.items spells.are_items;
      };
      spells = spells;
      depth = depth;
    }
