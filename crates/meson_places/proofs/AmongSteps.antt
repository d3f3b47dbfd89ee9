-- What is replaced in some values, one after another: one value further.
use Rattle.std.proofs.Common.{◌≡◌, ℕ, ◌+◌, ◌<◌, ◌≤◌, true, false, List, [], ◌∷◌, ◌++◌, append_assoc, append-nil, drop, get_or, length, map, Result, Ok, Err, refl, sym, ap, ap₂, ◌∙◌}
use Rattle.std.specs.Prelude.{Some, if◌then◌else◌}
use Rattle.std.proofs.lemmas.List.{at_drop_all, at_drop_more, get_or_default, map-append}
use Rattle.meson_splice.specs.Patch.{then_ok}
use Rattle.meson_calls.specs.declared.call.CallRef.{CallRef}
use Rattle.meson_calls.specs.declared.refusal.Refusal.{Refusal}
use Rattle.meson_calls.specs.Loading.{Loaded, project}
use Rattle.meson_calls.specs.Project.{expression_at}
use Rattle.meson_steps.specs.declared.step.ListStep.{ListStep}
use Rattle.meson_steps.specs.ListSteps.{AreBare, bare}
use Rattle.meson_steps.specs.Meanings.{AreMeant}
use Rattle.meson_steps.specs.Steps.{Step}
use Rattle.meson_places.specs.AllAssigned.{replace_among, said_at, then_more}
use Rattle.meson_places.specs.Replacements.{Exchange, replace_whole}

more_twice : (before here : List Step) (rest : Result (List Step) Refusal) → then_more before (then_more here rest) ≡ then_more (before ++ here) rest
more_twice before here (Ok more) = ap Ok (sym (append_assoc before here more))
more_twice before here (Err e) = refl

-- what stands at an index is one thing, however often it is read
pub read_twice : (cs : List CallRef) (i : ℕ) (c d : CallRef) → i < length cs → c ≡ get_or cs i c → d ≡ get_or cs i d → c ≡ d
read_twice cs i c d within is also = is ∙ get_or_default cs i c d within ∙ sym also

module _ (l : Loaded) (key : List ℕ) (x : Exchange) where
  abbrev pub among : List CallRef → Result (List Step) Refusal
  among = replace_among l key x

  abbrev pub at_place : CallRef → Result (List Step) Refusal
  at_place c = replace_whole l x key c (expression_at (project l) c)

  module _ (cs : List CallRef) (i : ℕ) where
    module _ (c : CallRef) (within : i < length cs) (is : c ≡ get_or cs i c) where
      abbrev rest : Result (List Step) Refusal
      rest = among (drop (i + 1) cs)

      one_off : among (drop i cs) ≡ (if said_at l.files (project l) x.old c then then_ok (at_place c) (λ ss. then_more ss rest) else rest)
      one_off = at_drop_more among cs i c within ∙ ap (λ d. among (d ∷ drop (i + 1) cs)) (sym is)

      pub passed_over : said_at l.files (project l) x.old c ≡ false → among (drop i cs) ≡ rest
      passed_over said = one_off ∙ ap (λ b. if b then then_ok (at_place c) (λ ss. then_more ss rest) else rest) said

      pub changed_there : said_at l.files (project l) x.old c ≡ true → among (drop i cs) ≡ then_ok (at_place c) (λ ss. then_more ss rest)
      changed_there said = one_off ∙ ap (λ b. if b then then_ok (at_place c) (λ ss. then_more ss rest) else rest) said

    module _ (done : List Step) (code : List ListStep) (bares : AreBare done code) (so_far : among cs ≡ then_more done (among (drop i cs))) where
      pub all_done : length cs ≤ i → AreMeant (among cs) code
      all_done past = record { steps = done; is = so_far ∙ ap (then_more done) (at_drop_all among cs i past) ∙ ap Ok (append-nil done); bare = bares }

      module _ (c : CallRef) (within : i < length cs) (is : c ≡ get_or cs i c) where
        pub one_passed : said_at l.files (project l) x.old c ≡ false → among cs ≡ then_more done (among (drop (i + 1) cs))
        one_passed said = so_far ∙ ap (then_more done) (passed_over c within is said)

        module _ (said : said_at l.files (project l) x.old c ≡ true) where
          pub one_refused : (e : Refusal) → at_place c ≡ Err e → among cs ≡ Err e
          one_refused e refused = so_far ∙ ap (then_more done) (changed_there c within is said ∙ ap (λ r. then_ok r (λ ss. then_more ss (among (drop (i + 1) cs)))) refused)

          module _ (edits : List ListStep) (m : AreMeant (at_place c) edits) where
            pub one_changed : among cs ≡ then_more (done ++ m.steps) (among (drop (i + 1) cs))
            one_changed =
                so_far ∙ ap (then_more done) (changed_there c within is said ∙ ap (λ r. then_ok r (λ ss. then_more ss (among (drop (i + 1) cs)))) m.is)
                ∙ more_twice done m.steps (among (drop (i + 1) cs))

            pub bare_with : (after : List ListStep) → after ≡ code ++ edits → AreBare (done ++ m.steps) after
            bare_with after are = map-append bare done m.steps ∙ ap₂ (λ a b. a ++ b) bares m.bare ∙ sym (map-append Some code edits) ∙ ap (map Some) (sym are)
