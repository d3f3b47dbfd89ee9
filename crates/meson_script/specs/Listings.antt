-- What info commands list, and the text that is kept of it.
use Rattle.std.specs.Prelude.{◌≡◌, ℕ, List, [], ◌∷◌, ◌++◌, Option, Ok, option_to_list}
use Rattle.serde_json.specs.Data.{Data, array}
use Rattle.serde_json.specs.View.{items_of}
use Rattle.serde_json.specs.Written.{compact_text}
use Rattle.meson_calls.specs.Loading.{Loaded}
use Rattle.meson_steps.specs.declared.command.Command.{Command}
use Rattle.meson_plan.specs.Listing.{told}
use Rattle.meson_inventory.specs.Info.{IsInfo}
use Rattle.meson_script.specs.declared.listings.ListingForm.{ListingForm}
use Rattle.meson_script.specs.declared.listings.ListingForm.TheVariants.{Plain, Placed}

-- an array of them in compact JSON, or nothing if there are none
abbrev pub listings_text : List Data → List ℕ
listings_text [] = []
listings_text (d ∷ ds) = compact_text (array (items_of (d ∷ ds)))

-- what a command lists of a project as it is: as `meson rewrite` prints it, or with positions
abbrev pub Lists : ListingForm → Loaded → Command → List Data → Type 0
Lists Plain l c ds = told l c ≡ Ok ds
Lists Placed l c ds = (info : Option Data) × IsInfo l c info × (ds ≡ option_to_list info)

-- After these listings a command lists further ones of a project, and this is the text of all.
pub record Added (form : ListingForm) (l : Loaded) (c : Command) (shown : List Data) (text : List ℕ) : Type 0 where
  pub plain : List Data
  pub is_plain : told l c ≡ Ok plain
  pub more : List Data
  pub lists : Lists form l c more
  pub is_text : text ≡ listings_text (shown ++ more)
