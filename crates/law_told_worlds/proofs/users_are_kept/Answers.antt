-- the laws that are called

use Rattle.law_told_worlds.proofs.Kept as kept
use Rattle.law_told_worlds.proofs.Opening as opening
use Rattle.law_told_worlds.proofs.users_are_kept.Goals as goal

pub returns : goal.returns
returns c =
    let run = c.nodes_are_steady.ensures in
    let made = c.frames_are_made.ensures.events run.sites run.room run.fronts run.steps in
    let read = c.frames_are_read.ensures in
    record {
      cleared = kept.cleared_are_kept c.label_is_owned.ensures.spare_is_unused run.sites run.fronts run.steps run.pasts run.stay run.frames made read.frames read.marks c.worlds_are_running.ensures.chains;
      cleared_begin = opening.cleared_begin;
      users = kept.users_are_kept c.label_is_owned.ensures.spare_is_unused run.sites run.fronts run.steps run.pasts run.stay run.frames made read.frames read.marks c.worlds_are_running.ensures.chains;
      users_begin = opening.users_begin;
    }
