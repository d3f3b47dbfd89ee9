-- What is found at the front is an item that may stand there, or a fault: blanks, line ends and comments.
use Rattle.std.proofs.Common.{◌≡◌, ℕ, Bool, true, false, not, eqb, List, [], ◌∷◌, ◌++◌, length, take, drop, None, Ok, Err, sym, refl, ap, subst, ⊎_elim, inl, inr, add-zero}
use Rattle.std.specs.Prelude.{◌⊎◌}
use Rattle.std.specs.List.{prefix_len}
use Rattle.std.proofs.lemmas.Bool.{cond_both, and_from, or_cases, eq-eqb, eqb-true, false≢true, not-false, both_ways}
use Rattle.meson_lex.specs.declared.kinds.Kind.{Kind}
use Rattle.meson_lex.specs.declared.kinds.Kind.TheVariants.{Blank, LineEnd}
use Rattle.meson_lex.specs.Bytes.{is_blank, is_line_byte, is_line_feed, begins, begins_bare_return, first_bare_return}
use Rattle.meson_lex.specs.Kinds.{OfKind}
use Rattle.meson_lex.specs.Neighbours.{MayStand}
use Rattle.meson_lex.specs.Faults.{after_comment, HasFault}
use Rattle.meson_lex.specs.Scan.{Front, comment_of, comment_front, line_front, plain}
use Rattle.meson_lex.proofs.Runs.{run_passes, run_ends, none_bare, run_len, run_joins, run_drop}
use Rattle.meson_lex.proofs.FrontComplete.{found}

-- an item of n bytes stands at the front of bytes
pub record IsFound (bytes : List ℕ) (k : Kind) (n : ℕ) : Type 0 where
  pub text : List ℕ
  pub rest : List ℕ
  pub joins : text ++ rest ≡ bytes
  pub is : OfKind k text
  pub bare : first_bare_return text ≡ None
  pub may : MayStand k text rest
  pub len : length text ≡ n

abbrev pub Sound : ℕ → List ℕ → Front → Type 0
Sound at bytes (Ok found) = IsFound bytes found.0 found.1
Sound at bytes (Err fault) = HasFault at bytes fault

pub blank_sound : (at b : ℕ) (bs : List ℕ) → is_blank b ≡ true → IsFound (b ∷ bs) Blank (prefix_len is_blank (b ∷ bs))
blank_sound at b bs passes = record {
  text = b ∷ take (prefix_len is_blank bs) bs;
  rest = drop (prefix_len is_blank bs) bs;
  joins = run_joins is_blank b bs passes;
  is = (passes, run_passes is_blank bs);
  bare = none_bare is_blank refl (b ∷ take (prefix_len is_blank bs) bs) (and_from _ _ passes (run_passes is_blank bs));
  may = run_ends is_blank bs;
  len = run_len is_blank b bs passes;
}

-- LF follows
line_feed_found : (bs : List ℕ) → begins is_line_feed bs ≡ true → IsFound (13 ∷ bs) LineEnd 2
line_feed_found [] h = absurd (false≢true h)
line_feed_found (c ∷ cs) h = record {
  text = 13 ∷ 10 ∷ [];
  rest = cs;
  joins = ap (λ x. 13 ∷ x ∷ cs) (sym (eqb-true c 10 h));
  is = inr refl;
  bare = refl;
  may = tt;
  len = refl;
}

pub line_sound : (at b : ℕ) (bs : List ℕ) → is_line_byte b ≡ true → Sound at (b ∷ bs) (line_front at b bs)
unfolding line_front
line_sound at b bs passes =
    cond_both (eqb b 10) _ _ (Sound at (b ∷ bs))
    (λ feed. record { text = 10 ∷ []; rest = bs; joins = ap (λ x. x ∷ bs) (sym (eqb-true b 10 feed)); is = inl refl; bare = refl; may = tt; len = refl })
    (λ other.
    let return_is : b ≡ 13 = ⊎_elim (λ feed. absurd (both_ways _ other feed)) (λ r. eqb-true b 13 r) (or_cases _ _ passes) in
    cond_both (begins is_line_feed bs) _ _ (Sound at (b ∷ bs))
    (λ follows. subst (λ x. IsFound (x ∷ bs) LineEnd 2) (sym return_is) (line_feed_found bs follows))
    (λ alone. (0, sym (add-zero at), after_comment [] (b ∷ bs) refl (inl refl) (and_from _ _ (eq-eqb b 13 return_is) (ap not alone)) refl)))

-- where a comment ends a line byte stands, or nothing
comment_may : (rest : List ℕ) → begins (λ c. not (is_line_byte c)) rest ≡ false → begins_bare_return rest ≡ false → (rest ≡ []) ⊎ ((begins is_line_byte rest ≡ true) × (begins_bare_return rest ≡ false))
comment_may [] ends plain = inl refl
comment_may (c ∷ cs) ends plain = inr (not-false _ ends, plain)

pub comment_sound : (at b : ℕ) (bs : List ℕ) → b ≡ 35 → Sound at (b ∷ bs) (comment_front at (b ∷ bs))
unfolding comment_front
comment_sound at b bs hash =
    let test : ℕ → Bool = λ c. not (is_line_byte c) in
    let passes : test b ≡ true = ap test hash in
    let n : ℕ = prefix_len test (b ∷ bs) in
    let rest : List ℕ = drop (prefix_len test bs) bs in
    let joins = run_joins test b bs passes in
    let P : List ℕ → Type 0 = λ r. Sound at (b ∷ bs) (comment_of at n r) in
    subst P (sym (run_drop test b bs passes))
    (cond_both (begins_bare_return rest) _ _ (Sound at (b ∷ bs))
    (λ bare. (n, refl, after_comment (b ∷ take (prefix_len test bs) bs) rest joins (inr (hash, run_passes test bs)) bare (sym (run_len test b bs passes))))
    (λ plain. record {
      text = b ∷ take (prefix_len test bs) bs;
      rest = rest;
      joins = joins;
      is = (hash, run_passes test bs);
      bare = none_bare test refl (b ∷ take (prefix_len test bs) bs) (and_from _ _ passes (run_passes test bs));
      may = comment_may rest (run_ends test bs) plain;
      len = run_len test b bs passes;
    }))
