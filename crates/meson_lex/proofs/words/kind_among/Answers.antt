use Rattle.std.proofs.Common.{◌≡◌, ◌∙◌, ◌<◌, ℕ, zero, suc, List, [], ◌∷◌, length, map, drop, get_or, All, Bor, add-one, ap, arith, bytes_eq, false, sym}
use Rattle.std.proofs.lemmas.Bool.{cond-false}
use Rattle.std.proofs.lemmas.List.Elements.{All-head, All-tail}
use Rattle.meson_lex.specs.declared.kinds.Kind.{Kind}
use Rattle.meson_lex.specs.Kinds.{spelling}
use Rattle.meson_lex.specs.Scan.{kind_among}
use Rattle.meson_lex.proofs.words.kind_among.Goals as goal

abbrev Word : Type 0
Word = Bor (List ℕ) × Kind

-- a word that is another one is passed over
pass : (words : List Word) (i : ℕ) (d : Word) (text : List ℕ) → i < length words → All (λ (w : Word). w.0.now ≡ spelling w.1) words
    → bytes_eq text (get_or words i d).0.now ≡ false
    → kind_among (map (λ (w : Word). w.1) (drop i words)) text ≡ kind_among (map (λ (w : Word). w.1) (drop (suc i) words)) text
pass [] i d text within all other = absurd (omega (arith, within))
pass (w ∷ words) zero d text within all other =
    cond-false (bytes_eq text (spelling w.1)) _ _ (sym (ap (bytes_eq text) (All-head (λ (w : Word). w.0.now ≡ spelling w.1) w words all)) ∙ other)
pass (w ∷ words) (suc i) d text within all other =
    let below : i < length words = omega (arith, within) in
    pass words i d text below (All-tail (λ (w : Word). w.0.now ≡ spelling w.1) w words all) other

pub loop-i-preserved : goal.loop-i-preserved
loop-i-preserved c =
    let words = c.args.words.now in
    let text = c.args.word.now in
    let other = sym (ap (bytes_eq text) c.as_bytes.ensures.value) ∙ sym c.eq.ensures ∙ c.if-eq.false in
    c.loop-i.invariant
    ∙ pass words c.loop-i.i _ text c.loop-i-test.true c.requires other
    ∙ ap (λ k. kind_among (map (λ (w : Word). w.1) (drop k words)) text) (sym (add-one c.loop-i.i))
