-- the laws are proved over definitions alone

use Rattle.law_live_answers.proofs.Answering.{calm_messages_are_harmless, calm_frames_are_harmless}
use Rattle.law_live_answers.proofs.Passing.{calm_nodes_let_pass}
use Rattle.law_live_answers.proofs.answers_are_harmless.Goals as goal

pub returns : goal.returns
returns c = record { messages = calm_messages_are_harmless; frames = calm_frames_are_harmless; nodes = calm_nodes_let_pass }
