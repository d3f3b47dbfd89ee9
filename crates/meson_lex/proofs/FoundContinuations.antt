-- The same of continuations.
use Rattle.std.proofs.Common.{◌≡◌, ℕ, suc, ◌+◌, Bool, true, false, not, eqb, List, [], ◌∷◌, ◌++◌, length, take, drop, None, Ok, Err, sym, refl, ap, ◌∙◌, subst, arith, ⊎_elim, inl, inr, append_assoc, length-append, take-append-drop}
use Rattle.std.specs.Prelude.{◌⊎◌, option_map}
use Rattle.std.specs.List.{list_all, prefix_len}
use Rattle.std.proofs.lemmas.Bool.{cond-false, cond_both, and_from, and_left, and_parts, ne_eqb, eqb-true, false≢true}
use Rattle.std.proofs.lemmas.List.Folds.{length-prefix_len}
use Rattle.meson_lex.specs.declared.kinds.Kind.TheVariants.{Continuation}
use Rattle.meson_lex.specs.declared.fault.LexFault.TheVariants.{StrayByte, OpenString, BadNumber, BareCarriageReturn}
use Rattle.meson_lex.specs.Bytes.{is_blank, is_line_byte, is_line_feed, begins, begins_bare_return, first_bare_return}
use Rattle.meson_lex.specs.Kinds.{IsComment, IsContinuation, OfKind}
use Rattle.meson_lex.specs.Neighbours.{MayStand}
use Rattle.meson_lex.specs.Faults.{HasBareReturn, after_backslash, backslash}
use Rattle.meson_lex.specs.Scan.{Front, comment_len, continuation_of, continuation_front, plain, front}
use Rattle.meson_lex.proofs.Runs.{run_passes, run_take}
use Rattle.meson_lex.proofs.FrontComplete.{found, front_continuation}
use Rattle.meson_lex.proofs.Openings.{bare_at, stray, bare_again}
use Rattle.meson_lex.proofs.FoundLines.{Sound}

-- bytes with no CR, and then a text with none alone
pub bare_append : (xs ys : List ℕ) → list_all (λ c. not (eqb c 13)) xs ≡ true → first_bare_return ys ≡ None → first_bare_return (xs ++ ys) ≡ None
bare_append [] ys all none = none
bare_append (x ∷ xs) ys all none =
    let parts = and_parts (not (eqb x 13)) (list_all (λ c. not (eqb c 13)) xs) all in
    cond-false (begins_bare_return (x ∷ (xs ++ ys))) _ _ (and_left _ _ (not_true_here _ parts.0)) ∙ ap (option_map suc) (bare_append xs ys parts.1 none)
  where
    not_true_here : (t : Bool) → not t ≡ true → t ≡ false
    not_true_here true h = absurd (false≢true h)
    not_true_here false h = refl

pub no_return_in : (test : ℕ → Bool) → test 13 ≡ false → (xs : List ℕ) → list_all test xs ≡ true → list_all (λ c. not (eqb c 13)) xs ≡ true
no_return_in test fails [] all = refl
no_return_in test fails (x ∷ xs) all =
    let parts = and_parts (test x) (list_all test xs) all in
    and_from _ _ (ap not (ne_eqb x 13 (λ e. false≢true (sym fails ∙ ap test (sym e) ∙ parts.0)))) (no_return_in test fails xs parts.1)

pub no_return_note : (note : List ℕ) → (note ≡ []) ⊎ IsComment note → list_all (λ c. not (eqb c 13)) note ≡ true
no_return_note [] which = refl
no_return_note (b ∷ bs) which =
    ⊎_elim (λ e. absurd (cc))
    (λ comment. no_return_in (λ c. not (is_line_byte c)) refl (b ∷ bs) (and_from _ _ (ap (λ c. not (is_line_byte c)) comment.0) comment.1))
    which

note_found : (l : List ℕ) → ((take (comment_len l) l ≡ []) ⊎ IsComment (take (comment_len l) l)) × (length (take (comment_len l) l) ≡ comment_len l)
note_found [] = (inl refl, refl)
note_found (c ∷ cs) =
    let test : ℕ → Bool = λ x. not (is_line_byte x) in
    let P : ℕ → Type 0 = λ n. ((take n (c ∷ cs) ≡ []) ⊎ IsComment (take n (c ∷ cs))) × (length (take n (c ∷ cs)) ≡ n) in
    cond_both (eqb c 35) _ _ P
    (λ hash.
    let is : c ≡ 35 = eqb-true c 35 hash in
    let taken = run_take test c cs (ap test is) in
    (inr (subst IsComment (sym taken) (is, run_passes test cs)), length-prefix_len test (c ∷ cs)))
    (λ _. (inl refl, refl))

-- what a continuation may be found to be
abbrev pub ContinuationSound : ℕ → List ℕ → Front → Type 0
ContinuationSound at bytes (Ok p) = (p.0 ≡ Continuation) × ((text rest : List ℕ) × (text ++ rest ≡ bytes) × IsContinuation text × (first_bare_return text ≡ None) × (length text ≡ p.1))
ContinuationSound at bytes (Err (StrayByte n)) = n ≡ at
ContinuationSound at bytes (Err (BareCarriageReturn n)) = (k : ℕ) × (n ≡ at + k) × HasBareReturn bytes k
ContinuationSound at bytes (Err _) = ⊥

line_end_found : (at : ℕ) (blanks note end rest bytes : List ℕ) (n : ℕ) → 92 ∷ (blanks ++ (note ++ (end ++ rest))) ≡ bytes → list_all is_blank blanks ≡ true → (note ≡ []) ⊎ IsComment note → (end ≡ 10 ∷ []) ⊎ (end ≡ 13 ∷ 10 ∷ []) → first_bare_return end ≡ None → n ≡ 1 + (length blanks + length note) + length end → ContinuationSound at bytes (Ok (Continuation, n))
line_end_found at blanks note end rest bytes n joins all which ends bare len =
    let regroup : (blanks ++ (note ++ end)) ++ rest ≡ blanks ++ (note ++ (end ++ rest)) = append_assoc blanks (note ++ end) rest ∙ ap (λ l. blanks ++ l) (append_assoc note end rest) in
    let size : length (92 ∷ (blanks ++ (note ++ end))) ≡ n = omega (arith, len, length-append blanks (note ++ end), length-append note end) in (
      refl,
      (
        92 ∷ (blanks ++ (note ++ end)),
        rest,
        ap (λ l. 92 ∷ l) regroup ∙ joins,
        record { blanks = blanks; note = note; end = end; joins = refl; all_blank = all; is_note = which; is_end = ends },
        bare_append (92 ∷ blanks) (note ++ end) (no_return_in is_blank refl blanks all) (bare_append note end (no_return_note note which) bare),
        size,
      ),
    )

tail_sound : (at : ℕ) (blanks note tail bytes : List ℕ) (n : ℕ) → 92 ∷ (blanks ++ (note ++ tail)) ≡ bytes → list_all is_blank blanks ≡ true → (note ≡ []) ⊎ IsComment note → n ≡ 1 + (length blanks + length note) → ContinuationSound at bytes (continuation_of at n tail)
tail_sound at blanks note [] bytes n joins all which len = refl
tail_sound at blanks note (c ∷ cs) bytes n joins all which len =
    cond_both (eqb c 10) _ _ (ContinuationSound at bytes)
    (λ feed.
    let place : n + 1 ≡ 1 + (length blanks + length note) + 1 = omega (arith, len) in
    line_end_found at blanks note (10 ∷ []) cs bytes (n + 1) (ap (λ x. 92 ∷ (blanks ++ (note ++ (x ∷ cs)))) (sym (eqb-true c 10 feed)) ∙ joins) all which (inl refl) refl place)
    (λ _. cond_both (eqb c 13) _ _ (ContinuationSound at bytes)
    (λ return_is. cond_both (begins is_line_feed cs) _ _ (ContinuationSound at bytes)
    (λ follows.
    let place : n + 2 ≡ 1 + (length blanks + length note) + 2 = omega (arith, len) in
    let feed = feed_first cs follows in
    line_end_found at blanks note (13 ∷ 10 ∷ []) feed.0 bytes (n + 2) (ap (λ l. 92 ∷ (blanks ++ (note ++ (13 ∷ l)))) feed.1 ∙ ap (λ x. 92 ∷ (blanks ++ (note ++ (x ∷ cs)))) (sym (eqb-true c 13 return_is)) ∙ joins) all which (inr refl) refl place)
    (λ alone. (n, refl, after_backslash blanks note (c ∷ cs) joins all which (and_from _ _ return_is (ap not alone)) len)))
    (λ _. refl))
  where
    feed_first : (l : List ℕ) → begins is_line_feed l ≡ true → (rest : List ℕ) × (10 ∷ rest ≡ l)
    feed_first [] h = absurd (false≢true h)
    feed_first (x ∷ xs) h = (xs, ap (λ y. y ∷ xs) (sym (eqb-true x 10 h)))

pub continuation_found : (at : ℕ) (bs : List ℕ) → ContinuationSound at (92 ∷ bs) (continuation_front at bs)
unfolding continuation_front
continuation_found at bs =
    let m : ℕ = prefix_len is_blank bs in
    let l : List ℕ = drop m bs in
    let note = note_found l in
    let joins : take m bs ++ (take (comment_len l) l ++ drop (comment_len l) l) ≡ bs = ap (λ r. take m bs ++ r) (take-append-drop (comment_len l) l) ∙ take-append-drop m bs in
    let blanks_len = length-prefix_len is_blank bs in
    let len : 1 + (m + comment_len l) ≡ 1 + (length (take m bs) + length (take (comment_len l) l)) = omega (arith, note.1, blanks_len) in
    tail_sound at (take m bs) (take (comment_len l) l) (drop (comment_len l) l) (92 ∷ bs) (1 + (m + comment_len l)) (ap (λ r. 92 ∷ r) joins) (run_passes is_blank bs) note.0 len

-- where a backslash is stray, no continuation and no bare CR stands
continuation_sound_of : (at : ℕ) (bs : List ℕ) (r : Front) → front at (92 ∷ bs) ≡ r → ContinuationSound at (92 ∷ bs) r → Sound at (92 ∷ bs) r
continuation_sound_of at bs (Ok p) is h = record {
  text = h.1.0;
  rest = h.1.1;
  joins = h.1.2;
  is = subst (λ k. OfKind k h.1.0) (sym h.0) h.1.3;
  bare = h.1.4;
  may = subst (λ k. MayStand k h.1.0 h.1.1) (sym h.0) tt;
  len = h.1.5;
}
continuation_sound_of at bs (Err (StrayByte n)) is h = (
  h,
  backslash 92 bs refl
      (λ text rest joins s. let both : found Continuation (length text) ≡ stray n = sym (front_continuation at text rest s) ∙ ap (front at) joins ∙ is in cc)
      (λ place b. let both : bare_at (at + place) ≡ stray n = sym (bare_again at place (92 ∷ bs) b) ∙ is in cc),
)
continuation_sound_of at bs (Err (BareCarriageReturn n)) is h = h
continuation_sound_of at bs (Err (OpenString n)) is h = absurd h
continuation_sound_of at bs (Err (BadNumber n)) is h = absurd h

pub front_backslash : (at : ℕ) (bs : List ℕ) → front at (92 ∷ bs) ≡ continuation_front at bs
unfolding front plain
front_backslash at bs = refl

pub continuation_sound : (at : ℕ) (bs : List ℕ) → Sound at (92 ∷ bs) (continuation_front at bs)
continuation_sound at bs = continuation_sound_of at bs (continuation_front at bs) (front_backslash at bs) (continuation_found at bs)
