-- the laws are proved over definitions alone

use Rattle.law_live_saying.proofs.Put.{messages_are_put, greetings_are_put}
use Rattle.law_live_saying.proofs.messages_are_put.Goals as goal

pub returns : goal.returns
returns c = record { messages = messages_are_put; greetings = greetings_are_put }
