-- The items that `scan` gives are those of the text.
use Rattle.std.proofs.Common.{◌≡◌, ℕ, zero, suc, ◌+◌, ◌<◌, ◌≤◌, List, [], ◌∷◌, ◌++◌, length, drop, Result, Ok, Err, sym, refl, ap, ◌∙◌, arith, ⊎_elim, add-zero, append_assoc, length-drop, length-append}
use Rattle.std.proofs.lemmas.List.{drop_at}
use Rattle.std.proofs.lemmas.Bool.{false≢true}
use Rattle.meson_lex.specs.declared.kinds.Item.{Item}
use Rattle.meson_lex.specs.declared.kinds.Kind.{Kind}
use Rattle.meson_lex.specs.declared.kinds.Kind.TheVariants.{Blank, LineEnd, Comment, Continuation, Identifier, Integer, PlainString, MultilineString, FormatString, FormatMultilineString}
use Rattle.meson_lex.specs.declared.fault.LexFault.{LexFault}
use Rattle.meson_lex.specs.Kinds.{OfKind}
use Rattle.meson_lex.specs.Items.{Lexeme, joined, IsItem, AreItems}
use Rattle.meson_lex.specs.Lexed.{with_spans}
use Rattle.meson_lex.specs.Scan.{Front, front, scan_after, scan_within, scan}
use Rattle.meson_lex.proofs.FrontComplete.{front_again}
use Rattle.meson_lex.proofs.FoundLines.{Sound, IsFound}
use Rattle.meson_lex.proofs.FrontSound.{front_sound}

-- the item of a kind and n bytes at place at
abbrev pub item_at : ℕ → Kind → ℕ → Result Item LexFault
item_at at k n = Ok (record { kind = k; span = record { from = at; to = at + n } })

-- no item is empty
pub no_empty : (k : Kind) → OfKind k [] → ⊥
no_empty Blank h = h
no_empty LineEnd h = ⊎_elim (λ e. absurd (cc)) (λ e. absurd (cc)) h
no_empty Comment h = h
no_empty Identifier h = h.0
no_empty Continuation h = let e = h.joins in cc
no_empty Integer h = false≢true h
no_empty PlainString h = let e = h.joins in cc
no_empty MultilineString h = let e = h.joins in cc
no_empty FormatString h = let e = h.joins in cc
no_empty FormatMultilineString h = let e = h.joins in cc
no_empty _ h = cc

positive_text : (k : Kind) (text : List ℕ) → OfKind k text → 0 < length text
positive_text k [] h = absurd (no_empty k h)
positive_text k (b ∷ bs) h = omega arith

pub positive : (bytes : List ℕ) (k : Kind) (n : ℕ) → IsFound bytes k n → 0 < n
positive bytes k n h = let p = positive_text k h.text h.is in omega (arith, h.len)

pub found_within : (bytes : List ℕ) (k : Kind) (n : ℕ) → IsFound bytes k n → n ≤ length bytes
found_within bytes k n h = omega (arith, h.len, ap length h.joins, length-append h.text h.rest)

-- more fuel than bytes changes nothing
same_after : (f g : ℕ → List ℕ → List (Result Item LexFault)) (at : ℕ) (bytes : List ℕ) (r : Front) → Sound at bytes r → ((k : Kind) (n : ℕ) → IsFound bytes k n → f (at + n) (drop n bytes) ≡ g (at + n) (drop n bytes)) → scan_after f at bytes r ≡ scan_after g at bytes r
same_after f g at bytes (Ok p) h same = ap (λ l. item_at at p.0 p.1 ∷ l) (same p.0 p.1 h)
same_after f g at bytes (Err e) h same = refl

fuel_free : (f g : ℕ) (at : ℕ) (bytes : List ℕ) → length bytes ≤ f → length bytes ≤ g → scan_within f at bytes ≡ scan_within g at bytes
fuel_free zero zero at bytes hf hg = refl
fuel_free zero (suc g) at [] hf hg = refl
fuel_free zero (suc g) at (b ∷ bs) hf hg = absurd (omega arith)
fuel_free (suc f) zero at [] hf hg = refl
fuel_free (suc f) zero at (b ∷ bs) hf hg = absurd (omega arith)
fuel_free (suc f) (suc g) at [] hf hg = refl
fuel_free (suc f) (suc g) at (b ∷ bs) hf hg =
    same_after (scan_within f) (scan_within g) at (b ∷ bs) (front at (b ∷ bs)) (front_sound at b bs)
    (λ k n h.
    let p = positive (b ∷ bs) k n h in
    let len = length-drop n (b ∷ bs) in
    fuel_free f g (at + n) (drop n (b ∷ bs)) (omega arith) (omega arith))

-- one step of `scan`
pub scan_next : (at : ℕ) (b : ℕ) (bs : List ℕ) → scan at (b ∷ bs) ≡ scan_after scan at (b ∷ bs) (front at (b ∷ bs))
scan_next at b bs =
    same_after (scan_within (length bs)) scan at (b ∷ bs) (front at (b ∷ bs)) (front_sound at b bs)
    (λ k n h.
    let p = positive (b ∷ bs) k n h in
    let len = length-drop n (b ∷ bs) in
    fuel_free (length bs) (length (drop n (b ∷ bs))) (at + n) (drop n (b ∷ bs)) (omega arith) (omega arith))

scan_item_cons : (at : ℕ) (k : Kind) (b : ℕ) (bs rest : List ℕ) → IsItem (record { kind = k; text = b ∷ bs }) rest → scan at ((b ∷ bs) ++ rest) ≡ item_at at k (length (b ∷ bs)) ∷ scan (at + length (b ∷ bs)) rest
scan_item_cons at k b bs rest h =
    scan_next at b (bs ++ rest)
    ∙ ap (scan_after scan at ((b ∷ bs) ++ rest)) (front_again at k (b ∷ bs) rest h.0 h.1 h.2)
    ∙ ap (λ l. item_at at k (length (b ∷ bs)) ∷ scan (at + length (b ∷ bs)) l) (drop_at (b ∷ bs) rest (length (b ∷ bs)) refl)

pub scan_item : (at : ℕ) (k : Kind) (text rest : List ℕ) → IsItem (record { kind = k; text = text }) rest → scan at (text ++ rest) ≡ item_at at k (length text) ∷ scan (at + length text) rest
scan_item at k [] rest h = absurd (no_empty k h.0)
scan_item at k (b ∷ bs) rest h = scan_item_cons at k b bs rest h

-- the items, and then the rest
pub scan_items : (at : ℕ) (xs : List Lexeme) (rest : List ℕ) → AreItems xs rest → scan at (joined xs ++ rest) ≡ with_spans at xs ++ scan (at + length (joined xs)) rest
scan_items at [] rest h = ap (λ n. scan n rest) (sym (add-zero at))
scan_items at (x ∷ xs) rest h =
    let later = scan_items (at + length x.text) xs rest h.1 in
    let place : at + length x.text + length (joined xs) ≡ at + length (x.text ++ joined xs) = omega (arith, length-append x.text (joined xs)) in
    ap (scan at) (append_assoc x.text (joined xs) rest) ∙ scan_item at x.kind x.text (joined xs ++ rest) h.0
    ∙ ap (λ l. item_at at x.kind (length x.text) ∷ l) (later ∙ ap (λ n. with_spans (at + length x.text) xs ++ scan n rest) place)
