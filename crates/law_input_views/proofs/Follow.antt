-- moves of an input's line lead on, from one site to the next; instances are drawn elsewhere

use Rattle.std.proofs.Common.{◌≡◌, ℕ, zero, suc, ◌+◌, List, [], ◌∷◌, ◌++◌, refl, ◌∙◌, ap, subst, replicate, arith}
use Rattle.law_shown_cells.specs.world_model.Words.{End, NodeId, Frame, Site}
use Rattle.law_branch_line.specs.Line.{Line}
use Rattle.law_branch_line.specs.Moves.{Move, DrawElsewhere, step, run}
use Rattle.law_branch_line.specs.Law.{IsReached}
use Rattle.law_branch_line.proofs.Reached.{run_reached}
use Rattle.law_input_views.specs.Shown.{InputShows}
use Rattle.law_input_views.specs.Reaching.{Follows, ReachedAs}

pub run_join : (line : Line) (xs ys : List Move) → run line (xs ++ ys) ≡ run (run line xs) ys
run_join line [] ys = refl
run_join line (x ∷ xs) ys = run_join (step line x) xs ys

module _ (node : NodeId) (input : End) where
  pub follows_self : (site : Site) (frames : List Frame) (n : ℕ) (P : Line → Type 0) (line : Line) → InputShows node input site frames n line → P line
      → Follows node input site frames n P line
  follows_self site frames n P line s p = record { moves = []; after = line; is = refl; shows = s; also = p }

  pub follows_then : (v w : Site) (old new : List Frame) (m n : ℕ) (P Q : Line → Type 0) (line : Line) → Follows node input v old m P line
      → ((z : Line) → InputShows node input v old m z → P z → Follows node input w new n Q z) → Follows node input w new n Q line
  follows_then v w old new m n P Q line f g =
      let h : Follows node input w new n Q f.after = g f.after f.shows f.also in
      record { moves = f.moves ++ h.moves; after = h.after; is = run_join line f.moves h.moves ∙ (ap (λ (z : Line). run z h.moves) f.is ∙ h.is); shows = h.shows; also = h.also }

  -- a line that is reached
  pub reached_on : (v w : Site) (old new : List Frame) (m n : ℕ) (P Q : Line → Type 0) → ReachedAs node input v old m P
      → ((line : Line) → InputShows node input v old m line → P line → Follows node input w new n Q line) → ReachedAs node input w new n Q
  reached_on v w old new m n P Q r f =
      let g : Follows node input w new n Q r.line = f r.line r.shows r.also in
      record { line = g.after; reached = subst IsReached g.is (run_reached r.line g.moves r.reached); shows = g.shows; also = g.also }

-- *Instances are drawn elsewhere*
pub drawn : (line : Line) (k : ℕ) → run line (replicate k DrawElsewhere) ≡ record line { fresh = line.fresh + k }
drawn line zero = ap (λ (n : ℕ). record line { fresh = n }) (omega arith)
drawn line (suc k) = drawn (record line { fresh = line.fresh + 1 }) k ∙ ap (λ (n : ℕ). record line { fresh = n }) (omega arith)
