-- what more cells show, what the same cells show seen otherwise, and the first cell of what shows

use Rattle.std.proofs.Common.{◌≡◌, ◌≢◌, List, [], ◌∷◌, ◌++◌, refl, ◌∙◌, subst, append-nil}
use Rattle.world_model.specs.Words.{Cell}
use Rattle.law_port_views.specs.ordered_lists.Ordered.{Every}
use Rattle.law_shown_cells.specs.Seen.{Seen, Nothing, Word, Unknown, Shows, nothing, hidden, word}

-- *The first cell*: it shows nothing, and the words are of those behind it; or the first word
pub data First {W : Type 0} (erased : W → W) (f : Cell → Seen W) (c : Cell) (cs : List Cell) : List W → Type 0 where
  no_word : {ts : List W} → f c ≡ Nothing → Shows erased f cs ts → First erased f c cs ts
  a_word : {t : W} {ts : List W} → f c ≡ Word (erased t) → Shows erased f cs ts → First erased f c cs (t ∷ ts)

pub first_of : {W : Type 0} {erased : W → W} {f : Cell → Seen W} {c : Cell} {cs : List Cell} {ts : List W} → Shows erased f (c ∷ cs) ts → First erased f c cs ts
first_of (hidden e h) = no_word e h
first_of (word e h) = a_word e h

module _ {W : Type 0} {erased : W → W} where
  pub shows_join : {f : Cell → Seen W} {cs ds : List Cell} {ts us : List W} → Shows erased f cs ts → Shows erased f ds us → Shows erased f (cs ++ ds) (ts ++ us)
  shows_join nothing k = k
  shows_join (hidden e h) k = hidden e (shows_join h k)
  shows_join (word e h) k = word e (shows_join h k)

  -- where each cell that is known stays what it is
  pub shows_map : {f g : Cell → Seen W} {cs : List Cell} {ts : List W} → ((c : Cell) → f c ≢ Unknown → g c ≡ f c) → Shows erased f cs ts → Shows erased g cs ts
  shows_map same nothing = nothing
  shows_map same (hidden {cell} e h) = hidden (same cell (λ u. absurd (cc (e, u))) ∙ e) (shows_map same h)
  shows_map same (word {cell} e h) = word (same cell (λ u. absurd (cc (e, u))) ∙ e) (shows_map same h)

  -- cells that all show nothing, and cells that are all a word
  pub shows_hidden : {f : Cell → Seen W} (P : Cell → Type 0) (cs : List Cell) → ((c : Cell) → P c → f c ≡ Nothing) → Every P cs → Shows erased f cs []
  shows_hidden P [] h each = nothing
  shows_hidden P (c ∷ cs) h each = hidden (h c each.0) (shows_hidden P cs h each.1)

  pub shows_behind : {f : Cell → Seen W} {cs ds : List Cell} {ts : List W} → Shows erased f cs ts → Shows erased f ds [] → Shows erased f (cs ++ ds) ts
  shows_behind {f} {cs} {ds} {ts} h k = subst (Shows erased f (cs ++ ds)) (append-nil ts) (shows_join h k)

  -- no cell shows no word
  pub none_shown : {f : Cell → Seen W} {ts : List W} → Shows erased f [] ts → ts ≡ []
  none_shown nothing = refl

  -- one cell alone
  pub one_word : {f : Cell → Seen W} {c : Cell} {t : W} → f c ≡ Word (erased t) → Shows erased f (c ∷ []) (t ∷ [])
  one_word e = word e nothing

  pub one_hidden : {f : Cell → Seen W} {c : Cell} → f c ≡ Nothing → Shows erased f (c ∷ []) []
  one_hidden e = hidden e nothing
