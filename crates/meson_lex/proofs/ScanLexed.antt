-- What `scan` gives is what is said of a text's items, and nothing else is.
use Rattle.std.proofs.Common.{◌≡◌, ℕ, zero, suc, ◌+◌, ◌≤◌, List, [], ◌∷◌, ◌++◌, length, drop, Result, Ok, Err, None, Some, sym, refl, ap, ◌∙◌, subst, arith, add-zero, append_assoc, length-drop, length-append}
use Rattle.std.proofs.lemmas.List.{drop_at, append-nil}
use Rattle.std.proofs.lemmas.Bool.{false≢true}
use Rattle.meson_lex.specs.declared.kinds.Item.{Item}
use Rattle.meson_lex.specs.declared.kinds.Kind.{Kind}
use Rattle.meson_lex.specs.declared.fault.LexFault.{LexFault}
use Rattle.meson_lex.specs.declared.fault.LexFault.TheVariants.{StrayByte, OpenString, BadNumber, BareCarriageReturn}
use Rattle.meson_lex.specs.Bytes.{first_bare_return}
use Rattle.meson_lex.specs.Kinds.{OfKind}
use Rattle.meson_lex.specs.Neighbours.{MayStand}
use Rattle.meson_lex.specs.Items.{joined}
use Rattle.meson_lex.specs.Faults.{HasBareReturn, after_comment, after_backslash, in_string, in_open, HasFault}
use Rattle.meson_lex.specs.Lexed.{with_spans, IsLexed, whole, faulty}
use Rattle.meson_lex.specs.Scan.{Front, front, scan_after, scan}
use Rattle.meson_lex.proofs.FaultComplete.{fault_again}
use Rattle.meson_lex.proofs.FoundLines.{Sound, IsFound}
use Rattle.meson_lex.proofs.FrontSound.{front_sound}
use Rattle.meson_lex.proofs.ScanItems.{item_at, positive, scan_next, scan_items}

-- an item before what is lexed
lexed_cons : (at : ℕ) (k : Kind) (text rest : List ℕ) (results : List (Result Item LexFault)) → OfKind k text → first_bare_return text ≡ None → MayStand k text rest → IsLexed (at + length text) rest results → IsLexed at (text ++ rest) (item_at at k (length text) ∷ results)
lexed_cons at k text rest results is bare may (whole xs h e) =
    whole (record { kind = k; text = text } ∷ xs)
    (record {
      joins = ap (λ l. text ++ l) h.joins;
      each = ((is, bare, subst (MayStand k text) (sym h.joins ∙ sym (append-nil (joined xs))) may), h.each);
    })
    (ap (λ l. item_at at k (length text) ∷ l) e)
lexed_cons at k text rest results is bare may (faulty xs last fault h e) =
    let place : at + length text + length (joined xs) ≡ at + length (text ++ joined xs) = omega (arith, length-append text (joined xs)) in
    faulty (record { kind = k; text = text } ∷ xs) last fault
    (record {
      joins = append_assoc text (joined xs) last ∙ ap (λ l. text ++ l) h.joins;
      each = ((is, bare, subst (MayStand k text) (sym h.joins) may), h.each);
      at_front = subst (λ n. HasFault n last fault) place h.at_front;
    })
    (ap (λ l. item_at at k (length text) ∷ l) e)

lexed_found : (at : ℕ) (bytes : List ℕ) (k : Kind) (n : ℕ) → IsFound bytes k n → IsLexed (at + n) (drop n bytes) (scan (at + n) (drop n bytes)) → IsLexed at bytes (item_at at k n ∷ scan (at + n) (drop n bytes))
lexed_found at bytes k n s h =
    let rest_is : drop n bytes ≡ s.rest = ap (drop n) (sym s.joins) ∙ drop_at s.text s.rest n s.len in
    let P : ℕ → List ℕ → Type 0 = λ m l. IsLexed at l (item_at at k m ∷ scan (at + n) (drop n bytes)) in
    subst (λ m. P m bytes) s.len
    (subst (P (length s.text)) s.joins
    (lexed_cons at k s.text s.rest (scan (at + n) (drop n bytes)) s.is s.bare s.may
    (subst (λ m. IsLexed (at + m) s.rest (scan (at + n) (drop n bytes))) (sym s.len)
    (subst (λ l. IsLexed (at + n) l (scan (at + n) (drop n bytes))) rest_is h))))

lexed_after : (at : ℕ) (bytes : List ℕ) (r : Front) → Sound at bytes r → ((k : Kind) (n : ℕ) → IsFound bytes k n → IsLexed (at + n) (drop n bytes) (scan (at + n) (drop n bytes))) → IsLexed at bytes (scan_after scan at bytes r)
lexed_after at bytes (Ok p) s later = lexed_found at bytes p.0 p.1 s (later p.0 p.1 s)
lexed_after at bytes (Err fault) s later =
    faulty [] bytes fault (record { joins = refl; each = tt; at_front = subst (λ n. HasFault n bytes fault) (sym (add-zero at)) s }) refl

lexed_within : (fuel at : ℕ) (bytes : List ℕ) → length bytes ≤ fuel → IsLexed at bytes (scan at bytes)
lexed_within fuel at [] h = whole [] (record { joins = refl; each = tt }) refl
lexed_within zero at (b ∷ bs) h = absurd (omega arith)
lexed_within (suc fuel) at (b ∷ bs) h =
    subst (IsLexed at (b ∷ bs)) (sym (scan_next at b bs))
    (lexed_after at (b ∷ bs) (front at (b ∷ bs)) (front_sound at b bs)
    (λ k n s.
    let p = positive (b ∷ bs) k n s in
    let len = length-drop n (b ∷ bs) in
    lexed_within fuel (at + n) (drop n (b ∷ bs)) (omega arith)))

-- each text has its items, or the items before its fault and that fault
pub scan_lexed : (at : ℕ) (bytes : List ℕ) → IsLexed at bytes (scan at bytes)
scan_lexed at bytes = lexed_within (length bytes) at bytes (omega arith)

bare_nil : (k : ℕ) → HasBareReturn [] k → ⊥
bare_nil k (after_comment [] [] joins which bare place) = false≢true bare
bare_nil k (after_comment [] (c ∷ cs) joins which bare place) = cc
bare_nil k (after_comment (c ∷ cs) rest joins which bare place) = cc
bare_nil k (after_backslash blanks note rest joins all which bare place) = cc
bare_nil k (in_string kind [] rest joins s bare) = let e : None ≡ Some k = bare in cc
bare_nil k (in_string kind (c ∷ cs) rest joins s bare) = cc
bare_nil k (in_open kind opened not_closed bare) = cc

fault_nil : (at : ℕ) (fault : LexFault) → HasFault at [] fault → ⊥
fault_nil at (StrayByte n) h = elim h.1 [ ]
fault_nil at (OpenString n) h = let e = h.1.opened in cc
fault_nil at (BadNumber n) h = false≢true h.1.digit
fault_nil at (BareCarriageReturn n) (k, is, bare) = bare_nil k bare

scan_fault : (at : ℕ) (bytes : List ℕ) (fault : LexFault) → HasFault at bytes fault → scan at bytes ≡ Err fault ∷ []
scan_fault at [] fault h = absurd (fault_nil at fault h)
scan_fault at (b ∷ bs) fault h = scan_next at b bs ∙ ap (scan_after scan at (b ∷ bs)) (fault_again at (b ∷ bs) fault h)

pub scan_only : (at : ℕ) (bytes : List ℕ) (results : List (Result Item LexFault)) → IsLexed at bytes results → results ≡ scan at bytes
scan_only at bytes results (whole xs h e) =
    e ∙ sym (append-nil (with_spans at xs)) ∙ sym (scan_items at xs [] h.each) ∙ ap (scan at) (append-nil (joined xs) ∙ h.joins)
scan_only at bytes results (faulty xs rest fault h e) =
    e ∙ ap (λ l. with_spans at xs ++ l) (sym (scan_fault (at + length (joined xs)) rest fault h.at_front)) ∙ sym (scan_items at xs rest h.each) ∙ ap (scan at) h.joins

-- a text is lexed in one way
pub one_lexed : (at : ℕ) (bytes : List ℕ) (rs qs : List (Result Item LexFault)) → IsLexed at bytes rs → IsLexed at bytes qs → rs ≡ qs
one_lexed at bytes rs qs h g = scan_only at bytes rs h ∙ sym (scan_only at bytes qs g)
