-- The law of an appended statement.
use Rattle.std.proofs.Common.{◌≡◌, ℕ, zero, suc, ◌+◌, Bool, true, false, cond, List, [], ◌∷◌, ◌++◌, length, refl, sym, ap, ap₂, ◌∙◌, subst, append_assoc}
use Rattle.std.proofs.lemmas.Bool.{cond_both}
use Rattle.std.proofs.lemmas.List.{append-nil}
use Rattle.std.specs.Prelude.{reverse}
use Rattle.meson_lex.specs.declared.kinds.Kind.{Kind}
use Rattle.meson_lex.specs.declared.kinds.Kind.TheVariants as k
use Rattle.meson_lex.specs.Items.{Lexeme, joined, IsItemList}
use Rattle.meson_lex.specs.Significant.{Word, State, start, step, emit, after, emitted, closing, new_line, significant}
use Rattle.meson_lex.proofs.Seams.{joined-append}
use Rattle.meson_layout.specs.Looks as look
use Rattle.meson_layout.specs.Pieces.{as_one, splices, line_feed}
use Rattle.meson_layout.specs.Statements.{at_line_start, line_end_of, appended}
use Rattle.meson_layout.specs.FileLaws.{line_start, behind_token, EditedFile, IsStatement, AppendLaw}
use Rattle.meson_layout.proofs.Near.{Follow, IsGood, AllGood, IsLoose, last, last-append, items-good, items-follow, follow-join, good-join}
use Rattle.meson_layout.proofs.Seams.{near-line, near-loose, loose, reloose}
use Rattle.meson_layout.proofs.Ends.{line-kind, last-one}
use Rattle.meson_layout.proofs.SameTexts.{joined-same}
use Rattle.meson_layout.proofs.StatementLaws.{after-append, to_end, file-edited}

-- ---- the line end that is used

pub record IsLine (x : Lexeme) : Type 0 where
  pub is : look.is_line_end x.kind ≡ true
  pub good : IsGood x

pub line-of : (items : List Lexeme) → AllGood items → IsLine (line_end_of items)
line-of [] g = record { is = refl; good = (Rattle.std.proofs.Common.inl refl, refl) }
line-of (x ∷ xs) g = cond_both (look.is_line_end x.kind) _ _ IsLine (λ h. record { is = h; good = g.0 }) (λ h. line-of xs g.1)

line-run : (x : Lexeme) (f : Bool) → look.is_line_end x.kind ≡ true → (emit (record { depth = 0; fresh = f }) x ≡ closing f) × (step (record { depth = 0; fresh = f }) x ≡ line_start)
line-run x f h = by-kind x.kind x.text f (line-kind x.kind h)
  where
    by-kind : (κ : Kind) (text : List ℕ) (f : Bool) → κ ≡ k.LineEnd → (emit (record { depth = 0; fresh = f }) (record { kind = κ; text = text }) ≡ closing f) × (step (record { depth = 0; fresh = f }) (record { kind = κ; text = text }) ≡ line_start)
    by-kind κ text true e = (ap (λ c. emit line_start (record { kind = c; text = text })) e, ap (λ c. step line_start (record { kind = c; text = text })) e)
    by-kind κ text false e = (ap (λ c. emit behind_token (record { kind = c; text = text })) e, ap (λ c. step behind_token (record { kind = c; text = text })) e)

-- ---- where the file ends

-- the file ends its last line
record AtStart (items : List Lexeme) : Type 0 where
  pub fresh : (after start items).fresh ≡ true
  pub ends : IsLoose (last line_feed items)

step-line : (κ : Kind) (text : List ℕ) (s : State) → κ ≡ k.LineEnd → (step s (record { kind = κ; text = text })).depth ≡ 0 → (step s (record { kind = κ; text = text })).fresh ≡ true
step-line κ text s e = subst (λ (c : Kind). (step s (record { kind = c; text = text })).depth ≡ 0 → (step s (record { kind = c; text = text })).fresh ≡ true) (sym e) (λ d. by-depth s.depth s.fresh d)
  where
    by-depth : (d : ℕ) (f : Bool) → d ≡ 0 → Rattle.meson_lex.specs.Significant.fresh_after d f ≡ true
    by-depth zero f h = refl
    by-depth (suc d) f h = absurd cc

start-by : (items rev : List Lexeme) → reverse items ≡ rev → at_line_start rev ≡ true → (after start items).depth ≡ 0 → AtStart items
start-by items [] e h d =
    let none : items ≡ [] = sym (Rattle.std.proofs.lemmas.List.reverse-reverse items) ∙ ap reverse e in
    record { fresh = ap (λ xs. (after start xs).fresh) none; ends = subst (λ xs. IsLoose (last line_feed xs)) (sym none) (λ y. tt) }
start-by items (x ∷ ys) e h d =
    let parts = last-one items x ys e in
    let state : after start items ≡ step (after start (reverse ys)) x = ap (after start) parts ∙ after-append start (reverse ys) (x ∷ []) in
    let same : last line_feed items ≡ x = ap (last line_feed) parts ∙ last-append line_feed (reverse ys) (x ∷ []) in
    let kind = line-kind x.kind h in
    record {
      fresh = ap (λ (s : State). s.fresh) state ∙ step-line x.kind x.text (after start (reverse ys)) kind (ap (λ (s : State). s.depth) (sym state) ∙ d);
      ends = near-loose (last line_feed items) (ap (λ (y : Lexeme). loose y.kind) same ∙ ap loose kind);
    }

-- ---- the statement with its line end

record Written (fresh : List Lexeme) (line : Lexeme) (words : List Word) : Type 0 where
  pub fits : Follow line_feed (fresh ++ line ∷ [])
  pub good : AllGood (fresh ++ line ∷ [])
  pub says : to_end line_start (fresh ++ line ∷ []) ≡ words ++ new_line ∷ []

written : (new : List ℕ) (fresh : List Lexeme) (words : List Word) (line : Lexeme) → IsStatement new fresh words → IsLine line → Written fresh line words
written new fresh words line h l =
    let run = line-run line false l.is in
    let whole : to_end line_start (fresh ++ line ∷ []) ≡ emitted start fresh ++ to_end (after start fresh) (line ∷ []) = Rattle.meson_layout.proofs.StatementLaws.to-end-append start fresh (line ∷ []) in
    let one : to_end behind_token (line ∷ []) ≡ new_line ∷ [] = ap₂ (λ u (v : State). (u ++ []) ++ closing v.fresh) run.0 run.1 in
    record {
      fits = follow-join line_feed fresh (line ∷ []) (items-follow line_feed fresh [] (λ y. tt) h.are_items.each) (near-line (last line_feed fresh) line l.is l.good, tt);
      good = good-join fresh (line ∷ []) (items-good fresh [] h.are_items.each) (l.good, tt);
      says = whole ∙ ap₂ (λ u (v : State). u ++ to_end v (line ∷ [])) h.says h.ends ∙ ap (λ u. words ++ u) one;
    }

-- what comes, at a line's start or not
abbrev come : Bool → List Lexeme → Lexeme → List Lexeme
come b fresh line = cond b (fresh ++ line ∷ []) (line ∷ (fresh ++ line ∷ []))

come-same : (b : Bool) (x y : List Lexeme) (line : Lexeme) → joined x ≡ joined y → joined (come b x line) ≡ joined (come b y line)
come-same true x y line e = joined-same [] x y (line ∷ []) e
come-same false x y line e = ap (λ t. line.text ++ t) (joined-same [] x y (line ∷ []) e)

module _ (source : List ℕ) (items : List Lexeme) (list : IsItemList source items) (depth : (after start items).depth ≡ 0) (new : List ℕ) (fresh : List Lexeme) (words : List Word) (is : IsStatement new fresh words) where
  abbrev line : Lexeme
  line = line_end_of items

  is-line : IsLine line
  is-line = line-of items (items-good items [] list.each)

  record Comes (xs : List Lexeme) : Type 0 where
    pub fits : Follow (last line_feed items) xs
    pub good : AllGood xs
    pub says : significant (items ++ xs) ≡ significant items ++ (words ++ new_line ∷ [])

  comes : (b : Bool) → at_line_start (reverse items) ≡ b → Comes (come b fresh line)
  comes true e =
      let s = start-by items (reverse items) refl e depth in
      let w = written new fresh words line is is-line in
      let state : after start items ≡ line_start = (λ i. record { depth = depth i; fresh = s.fresh i }) in
      record {
        fits = reloose line_feed (last line_feed items) _ s.ends w.fits;
        good = w.good;
        says = Rattle.meson_layout.proofs.StatementLaws.to-end-append start items (fresh ++ line ∷ [])
            ∙ ap (λ (v : State). emitted start items ++ to_end v (fresh ++ line ∷ [])) state
            ∙ ap₂ (λ u v. u ++ v) (sym (append-nil (emitted start items)) ∙ ap (λ b. emitted start items ++ closing b) (sym s.fresh)) w.says;
      }
  comes false e =
      let w = written new fresh words line is is-line in
      let f = (after start items).fresh in
      let state : after start items ≡ record { depth = 0; fresh = f } = (λ i. record { depth = depth i; fresh = f }) in
      let run = line-run line f is-line.is in
      let one : to_end (record { depth = 0; fresh = f }) (line ∷ (fresh ++ line ∷ [])) ≡ closing f ++ to_end line_start (fresh ++ line ∷ []) =
      append_assoc (emit (record { depth = 0; fresh = f }) line) _ _ ∙ ap₂ (λ u (v : State). u ++ to_end v (fresh ++ line ∷ [])) run.0 run.1 in
      record {
        fits = (near-line (last line_feed items) line is-line.is is-line.good, reloose line_feed line _ (near-loose line (ap loose (line-kind line.kind is-line.is))) w.fits);
        good = (is-line.good, w.good);
        says = Rattle.meson_layout.proofs.StatementLaws.to-end-append start items (line ∷ (fresh ++ line ∷ []))
            ∙ ap (λ (v : State). emitted start items ++ to_end v (line ∷ (fresh ++ line ∷ []))) state
            ∙ ap (λ u. emitted start items ++ u) (one ∙ ap (λ u. closing f ++ u) w.says)
            ∙ sym (append_assoc (emitted start items) (closing f) (words ++ new_line ∷ []));
      }

  appended-edited : (file : List ℕ) → (more : List ℕ) × EditedFile source (splices file 0 (appended items (as_one new))) (source ++ more) (significant items ++ (words ++ new_line ∷ []))
  unfolding appended
  appended-edited file =
      let b = at_line_start (reverse items) in
      let xs = come b fresh line in
      let h = comes b refl in
      let same : splices file 0 (appended items (as_one new)) ≡ splices file 0 (appended items fresh) = ap (λ t. record { file = file; at = 0 + length (joined items); was = []; now = t } ∷ []) (come-same b (as_one new) fresh line (append-nil new ∙ sym is.are_items.joins)) in
      let whole : items ++ (xs ++ []) ≡ items ++ xs = ap (λ l. items ++ l) (append-nil xs) in (
        joined xs,
        subst (λ ss. EditedFile source ss (source ++ joined xs) (significant items ++ (words ++ new_line ∷ []))) (sym same)
            (file-edited file source items list (appended items fresh) (source ++ joined xs) (significant items ++ (words ++ new_line ∷ [])) (append-nil items)
            (ap joined whole ∙ joined-append items xs ∙ ap (λ t. t ++ joined xs) list.joins)
            (subst (Follow line_feed) (sym whole) (follow-join line_feed items xs (items-follow line_feed items [] (λ y. tt) list.each) h.fits))
            (subst AllGood (sym whole) (good-join items xs (items-good items [] list.each) h.good))
            (ap significant whole ∙ h.says)),
      )

pub append-law : AppendLaw
append-law file source items list depth new fresh words is = appended-edited source items list depth new fresh words is file
