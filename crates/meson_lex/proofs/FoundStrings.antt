-- The same of strings.
use Rattle.std.proofs.Common.{◌≡◌, ℕ, ◌+◌, List, ◌++◌, length, take, drop, Option, Some, None, Ok, Err, sym, refl, ap, ◌∙◌, subst, append_assoc, length-append}
use Rattle.std.proofs.lemmas.List.{take_at, drop_at}
use Rattle.meson_lex.specs.declared.kinds.Kind.{Kind}
use Rattle.meson_lex.specs.declared.fault.LexFault.TheVariants.{OpenString}
use Rattle.meson_lex.specs.Bytes.{first_bare_return}
use Rattle.meson_lex.specs.Kinds.{IsString, IsRestOf, opener}
use Rattle.meson_lex.specs.Faults.{IsOpen, opened_string, in_string, in_open}
use Rattle.meson_lex.specs.Scan.{unless_bare, quoted_front, string_front, rest_len}
use Rattle.meson_lex.proofs.StringEnds.{rest_finds, FindsFront}
use Rattle.meson_lex.proofs.Openings.{Opened, of_string, may_string, none_closed}
use Rattle.meson_lex.proofs.FoundLines.{Sound}

string_found : (at : ℕ) (k : Kind) (text rest bytes : List ℕ) → text ++ rest ≡ bytes → opened_string bytes ≡ Some k → IsString k text → (o : Option ℕ) → first_bare_return text ≡ o → Sound at bytes (unless_bare at o (Ok (k, length text)))
string_found at k text rest bytes joins opened s None e = record {
  text = text;
  rest = rest;
  joins = joins;
  is = of_string k text s;
  bare = e;
  may = may_string k text rest (ap opened_string joins ∙ opened) s;
  len = refl;
}
string_found at k text rest bytes joins opened s (Some place) e = (place, refl, in_string k text rest joins s e)

open_found : (at : ℕ) (k : Kind) (bytes : List ℕ) → opened_string bytes ≡ Some k → IsOpen k bytes → (o : Option ℕ) → first_bare_return bytes ≡ o → Sound at bytes (unless_bare at o (Err (OpenString at)))
open_found at k bytes opened not_closed None e = (refl, record { kind = k; opened = opened; not_closed = not_closed; no_return = e })
open_found at k bytes opened not_closed (Some place) e = (place, refl, in_open k opened not_closed e)

string_of_sound : (at : ℕ) (k : Kind) (bytes rest : List ℕ) → opened_string bytes ≡ Some k → opener k ++ rest ≡ bytes → drop (length (opener k)) bytes ≡ rest → (o : Option ℕ) → rest_len k rest ≡ o → FindsFront (IsRestOf k) rest o → Sound at bytes (quoted_front at k bytes o)
string_of_sound at k bytes rest opened joins dropped None e h =
    open_found at k bytes opened (none_closed k bytes (ap (rest_len k) dropped ∙ e)) (first_bare_return bytes) refl
string_of_sound at k bytes rest opened joins dropped (Some n) e h =
    let text : List ℕ = opener k ++ h.text in
    let whole : text ++ h.rest ≡ bytes = append_assoc (opener k) h.text h.rest ∙ ap (λ l. opener k ++ l) h.joins ∙ joins in
    let len : length text ≡ length (opener k) + n = length-append (opener k) h.text ∙ ap (λ m. length (opener k) + m) h.len in
    let taken : take (length (opener k) + n) bytes ≡ text = ap (take (length (opener k) + n)) (sym whole) ∙ take_at text h.rest _ len in
    let P : List ℕ → Type 0 = λ t. Sound at bytes (unless_bare at (first_bare_return t) (Ok (k, length (opener k) + n))) in
    subst P (sym taken) (subst (λ m. Sound at bytes (unless_bare at (first_bare_return text) (Ok (k, m)))) len
    (string_found at k text h.rest bytes whole opened (record { rest = h.text; joins = refl; closed = h.closed }) (first_bare_return text) refl))

pub string_sound : (at : ℕ) (k : Kind) (bytes : List ℕ) → opened_string bytes ≡ Some k → Opened bytes (Some k) → Sound at bytes (string_front at k bytes)
unfolding string_front
string_sound at k bytes opened o =
    let dropped : drop (length (opener k)) bytes ≡ o.0 = ap (drop (length (opener k))) (sym o.1) ∙ drop_at (opener k) o.0 _ refl in
    subst (λ l. Sound at bytes (quoted_front at k bytes (rest_len k l))) (sym dropped)
    (string_of_sound at k bytes o.0 opened o.1 dropped (rest_len k o.0) refl (rest_finds k o.0 o.2))
