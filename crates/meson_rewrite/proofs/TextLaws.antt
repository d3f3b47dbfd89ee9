-- Texts in place of files are as files.
use Rattle.std.proofs.Common.{◌≡◌, ◌≢◌, ◌∙◌, ◌<◌, ◌⊎◌, ℕ, zero, suc, List, [], ◌∷◌, length, get_or, Option, Some, None, Result, Ok, Err, inl, inr, refl, sym, subst, arith}
use Rattle.std.specs.Prelude.{IfSome}
use Rattle.std.specs.FinMap.{get}
use Rattle.std.specs.List.{AllPairs}
use Rattle.meson_json.specs.TextsFile.{AreTexts, GivenText, HasTexts, listed_texts}
use Rattle.meson_command.specs.declared.asked.Asked.{Asked}
use Rattle.meson_store.proofs.Restoring.{at-other, at-same}
use Rattle.meson_store.specs.Commit.{path_in}
use Rattle.meson_store.specs.Content.{Content}
use Rattle.meson_store.specs.Seen.{Seen}
use Rattle.meson_store.specs.Texts.{with_texts}
use Rattle.meson_store.specs.declared.store_fault.StoreFault.TheVariants.{ReadFailed}
use Rattle.meson_rewrite.specs.declared.advice.Advice.TheVariants.{Nothing}
use Rattle.meson_rewrite.proofs.PlacedTexts.{path-apart}
use Rattle.meson_rewrite.proofs.TextEnds.{texts-untouched}
use Rattle.meson_rewrite.specs.Requests.{absent, unread}
use Rattle.meson_rewrite.specs.Runs.{Ends, IsUnchanged, RunEnds, TextsEnd, as_with_files, has_no_file, has_no_memory, has_no_texts, with_texts as texted, without_texts}
use Rattle.meson_rewrite.specs.Stops.{WantsMemory}
use Rattle.meson_rewrite.specs.TextLaws.{AnswersAsFiles, TextsAreFiles}
use Rattle.meson_rewrite.specs.Texts.{laid, placed, plain}
use Rattle.meson_rewrite.specs.declared.said.Said.{Said}
use Rattle.meson_rewrite.specs.declared.stop.Stop.{Stop}
use Rattle.meson_rewrite.specs.declared.stop.Stop.TheVariants.{Store}

-- ---- what a store with them holds

module _ (dir : Option (List ℕ)) (held : Content) where
  there : (texts : List GivenText) → AllPairs (λ a b. a.0 ≢ b.0) texts → (i : ℕ) (d : GivenText) → i < length texts
      → get (with_texts (placed dir texts) held) (path_in dir (get_or texts i d).0) ≡ Some (get_or texts i d).1
  there [] apart i d h = absurd (omega arith)
  there (t ∷ ts) apart zero d h = at-same (with_texts (placed dir ts) held) (path_in dir t.0) t.1
  there (t ∷ ts) apart (suc i) d h =
      let below : i < length ts = omega arith in
      let first : zero < suc i = omega arith in
      at-other (with_texts (placed dir ts) held) (path_in dir t.0) t.1 (path_in dir (get_or ts i d).0) (λ same. apart zero (suc i) d first h (path-apart dir t.0 (get_or ts i d).0 (sym same)))
      ∙ there ts (λ j k e l m. let l' : suc j < suc k = omega arith in let m' : suc k < suc (length ts) = omega arith in apart (suc j) (suc k) e l' m') i d below

  elsewhere : (texts : List GivenText) (path : List ℕ) → ((i : ℕ) (d : GivenText) → i < length texts → path ≢ path_in dir (get_or texts i d).0)
      → get (with_texts (placed dir texts) held) path ≡ get held path
  elsewhere [] path none = refl
  elsewhere (t ∷ ts) path none =
      let first : zero < suc (length ts) = omega arith in
      at-other (with_texts (placed dir ts) held) (path_in dir t.0) t.1 path (none zero t first)
      ∙ elsewhere ts path (λ i d h. let h' : suc i < suc (length ts) = omega arith in none (suc i) d h')

pub texts-are-files : TextsAreFiles
texts-are-files dir texts held are = (there dir held texts are.apart, elsewhere dir held texts)

-- ---- what is told

module _ (a : Asked) (name bytes : List ℕ) (texts : List GivenText) (held : Content) (before after : Seen) (told : before.content ≡ Some held) (has : get held name ≡ Some bytes) (lists : HasTexts bytes texts) where
  abbrev Answered : Result Said Stop → Type 0
  Answered end = ((reached : Seen) × (reached.content ≡ before.content) × Ends (Ok (plain a)) (laid (placed a.dir texts) reached) (laid (placed a.dir texts) after) end)
      ⊎ (end ≡ Err (Store (ReadFailed name) Nothing)) ⊎ ((stop : Stop) × (end ≡ Err stop) × WantsMemory stop)

  same-bytes : (other : List ℕ) → get held name ≡ Some other → other ≡ bytes
  same-bytes other is = let both : Some other ≡ Some bytes = sym is ∙ has in cc

  same-texts : (others : List GivenText) → HasTexts bytes others → others ≡ texts
  same-texts others these = let both : Some others ≡ Some texts = sym these.0 ∙ lists.0 in cc

  answered : (end : Result Said Stop) → TextsEnd (plain a) name before after end → Answered end
  answered _ (has_no_file _ u (unread rose)) = inr (inl refl)
  answered _ (has_no_file _ u (absent none)) = let both : None ≡ Some bytes = sym (none held told) ∙ has in absurd (let no : ⊥ = cc in no)
  answered _ (has_no_texts other u is none) =
      let here = subst (λ bs. IfSome (listed_texts bs) (λ ts. AreTexts ts → ⊥)) (same-bytes other (is held told)) none in
      absurd (subst (λ o. IfSome o (λ ts. AreTexts ts → ⊥)) lists.0 here lists.1)
  answered _ (as_with_files reached other others end u v is these ends) =
      let same = same-texts others (subst (λ bs. HasTexts bs others) (same-bytes other (is held told)) these) in
      inl (reached, u.kept, subst (λ ts. Ends (Ok (plain a)) (laid (placed a.dir ts) reached) (laid (placed a.dir ts) after) end) same ends)
  answered _ (has_no_memory stop u m) = inr (inr (stop, refl, m))

  of-run : (end : Result Said Stop) → a.texts ≡ Some name → RunEnds (Ok a) before after end → IsUnchanged before after × Answered end
  of-run end named (without_texts _ none ends) = let both : None ≡ Some name = sym none ∙ named in absurd (let no : ⊥ = cc in no)
  of-run end named (texted b other _ is other-named ends) =
      let same : b ≡ a = cc in
      let here : TextsEnd (plain a) other before after end = subst (λ x. TextsEnd (plain x) other before after end) same ends in
      let both : Some other ≡ Some name = sym (subst (λ x. x.texts ≡ Some other) same other-named) ∙ named in
      let one : other ≡ name = cc in
      let so : TextsEnd (plain a) name before after end = subst (λ n. TextsEnd (plain a) n before after end) one here in
      let u = texts-untouched (plain a) name before after end so in
      ((u.kept, u.no_replace), answered end so)

pub answers-as-files : AnswersAsFiles
answers-as-files a name bytes texts held before after end named told has lists ends = of-run a name bytes texts held before after told has lists end named ends
