-- The values of variables that are gathered one after another.
use Rattle.std.proofs.Common.{◌≡◌, ℕ, ◌+◌, ◌<◌, List, [], ◌∷◌, ◌++◌, append_assoc, drop, get_or, length, Result, Ok, Err, refl, sym, ap, ◌∙◌, add-one}
use Rattle.std.proofs.Math.Seq.{drop-cons}
use Rattle.meson_lex.specs.declared.kinds.Span.{Span}
use Rattle.meson_splice.specs.declared.file_set.File.{File}
use Rattle.meson_splice.specs.Patch.{then_ok}
use Rattle.meson_calls.specs.declared.call.CallRef.{CallRef}
use Rattle.meson_calls.specs.declared.refusal.Refusal.{Refusal}
use Rattle.meson_calls.specs.Project.{Project}
use Rattle.meson_steps.specs.declared.given.Given.{Given}
use Rattle.meson_followed_values.specs.declared.variables.Variable.{Variable}
use Rattle.meson_followed_values.specs.Choices.{all_owned, owned_values}

-- these, and then others
abbrev pub with_more : List CallRef → Result (List CallRef) Refusal → Result (List CallRef) Refusal
with_more cs r = then_ok r (λ more. Ok (cs ++ more))

pub none_before : (r : Result (List CallRef) Refusal) → with_more [] r ≡ r
none_before (Ok cs) = refl
none_before (Err e) = refl

one_more : (cs ds : List CallRef) (r : Result (List CallRef) Refusal) → with_more (cs ++ ds) r ≡ with_more cs (with_more ds r)
one_more cs ds (Ok es) = ap Ok (append_assoc cs ds es)
one_more cs ds (Err e) = refl

module _ (files : List File) (p : Project Span) (gs : List Given) (vs : List Variable) (i : ℕ) (v : Variable) (below : i < length vs) (is : get_or vs i v ≡ v) where
  abbrev owned : List Variable → Result (List CallRef) Refusal
  owned ws = all_owned files p gs ws

  split : drop i vs ≡ v ∷ drop (i + 1) vs
  split = drop-cons vs i v below ∙ ap (λ k. get_or vs i v ∷ drop k vs) (sym (add-one i)) ∙ ap (λ w. w ∷ drop (i + 1) vs) is

  pub after_one : (cs ds : List CallRef) → owned_values files p gs v ≡ Ok ds → with_more (cs ++ ds) (owned (drop (i + 1) vs)) ≡ with_more cs (owned (drop i vs))
  after_one cs ds found =
      one_more cs ds (owned (drop (i + 1) vs))
      ∙ ap (with_more cs) (sym (ap (λ r. then_ok r (λ es. with_more es (owned (drop (i + 1) vs)))) found) ∙ sym (ap owned split))

  pub refused_at : (cs : List CallRef) (e : Refusal) → owned_values files p gs v ≡ Err e → with_more cs (owned (drop i vs)) ≡ Err e
  refused_at cs e found = ap (with_more cs) (ap owned split ∙ ap (λ r. then_ok r (λ es. with_more es (owned (drop (i + 1) vs)))) found)
