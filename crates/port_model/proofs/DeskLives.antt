-- worked lives of a desk: what is asked, withdrawn and answered

use Rattle.std.proofs.Common.{◌≡◌, ℕ, ◌*◌, List, [], ◌∷◌, map, refl}
use Rattle.net_types.specs.declared.node.PortNo.{PortNo}
use Rattle.net_types.specs.declared.channel.End.{End}
use Rattle.gsmp_wire.specs.declared.message.BranchKind.TheVariants as kinds
use Rattle.gsmp_wire.specs.declared.message.Message.{Message}
use Rattle.gsmp_wire.specs.declared.message.Message.TheVariants as messages
use Rattle.gsmp_wire.specs.declared.request.Request.TheVariants.{AddBranch, MoveBranch, DeleteTree, DeleteAll, AllPorts}
use Rattle.port_model.specs.Desk.{Desk, empty_desk, asked, message_at}
use Rattle.port_model.specs.DeskAnswers.{Unknown, Done, Failed, answered, after_answer}

abbrev port : ℕ → PortNo
port n = record { 0 = n }

-- label 32 of port n, and its channel on the control link
abbrev label : (n : ℕ) → End
label n = record { port = port n; channel = record { vpi = 0; vci = 32 } }

abbrev home : (n : ℕ) → End
home n = record { port = port 0; channel = record { vpi = 16 * n; vci = 32 } }

abbrev numbers : Desk → List ℕ
numbers desk = map (λ s. s.number) desk.standing

-- a request takes the place of the one on its input
abbrev joining : Desk
joining = asked (asked (asked empty_desk (AddBranch (label 1) (home 1))) (AddBranch (label 2) (home 2))) (MoveBranch (label 1) (home 1) (label 2))

joining_is : (numbers joining ≡ 2 ∷ 3 ∷ []) × (joining.next ≡ 4)
joining_is = (refl, refl)

-- Delete All of a port withdraws what stands on its inputs, and nothing else
deleting_is : numbers (asked joining (DeleteAll (port 1))) ≡ 2 ∷ 4 ∷ []
deleting_is = refl

-- *Answers* are known by number and type: a success, a failure with its code
abbrev deleted : (result code number : ℕ) → Message
deleted result code number = messages.Branch kinds.Delete result code number 5 1 (label 1).channel 0 (record { vpi = 0; vci = 0 }) 0 0

abbrev deleting : Desk
deleting = asked empty_desk (DeleteTree (label 1))

done_is : answered deleting (deleted 3 0 1) ≡ Done (record { number = 1; request = DeleteTree (label 1) })
done_is = refl

after_is : (after_answer deleting (answered deleting (deleted 3 0 1))).standing ≡ []
after_is = refl

failed_is : answered deleting (deleted 4 2 1) ≡ Failed (record { number = 1; request = DeleteTree (label 1) }) 2
failed_is = refl

-- another number, another type, and a request are no answers to it
other_number : answered deleting (deleted 3 0 2) ≡ Unknown
other_number = refl

other_type : answered (asked empty_desk AllPorts) (deleted 3 0 1) ≡ Unknown
other_type = refl

own_request : answered deleting (message_at deleting (record { number = 1; request = DeleteTree (label 1) })) ≡ Unknown
own_request = refl
