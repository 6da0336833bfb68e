-- The words of remarks.
use Rattle.std.specs.Prelude.{ℕ, List, ◌++◌, [], Option, Some, None, codes, decimal}
use Rattle.line_figures.specs.declared.frames.Loss.{Loss}
use Rattle.line_figures.specs.declared.frames.Loss.TheVariants as losses
use Rattle.line_owner.specs.declared.acts.Command.{Command}
use Rattle.line_owner.specs.declared.acts.Command.TheVariants as commands
use Rattle.line_owner.specs.declared.acts.Saying.{Saying}
use Rattle.line_owner.specs.declared.acts.Saying.TheVariants as sayings
use Rattle.line_simulation.specs.declared.remarks.Remark.{Remark}
use Rattle.line_simulation.specs.declared.remarks.Remark.TheVariants as remarks

abbrev pub loss_word : Loss → List ℕ
loss_word losses.Collision = codes "collision"
loss_word losses.Noise = codes "noise"
loss_word losses.Off = codes "off"
loss_word losses.Withheld = codes "withheld"

abbrev pub command_text : Command → List ℕ
command_text (commands.Coordinator key) = codes "refused"
command_text (commands.Meter node key) = codes "refused"
command_text (commands.Depot node) = codes "refused"
command_text (commands.Allow node) = codes "refused"
command_text (commands.RandomOctets node least value) = codes "refused"
command_text (commands.Join node agent) = codes "refused"
command_text (commands.Leave node) = codes "refused"
command_text (commands.Tell m) = codes "refused node=" ++ (decimal m.node ++ (codes " reading=" ++ decimal m.round))
command_text commands.Seek = codes "refused"
command_text (commands.Rekey index key) = codes "refused"
command_text (commands.Challenge node) = codes "refused"
command_text (commands.Activate node index) = codes "refused"
command_text (commands.Order node index) = codes "refused node=" ++ (decimal node ++ (codes " order=" ++ decimal index))
command_text (commands.Restart node) = codes "refused"

abbrev pub saying_text : Saying → List ℕ
saying_text (sayings.Refused command) = command_text command
saying_text (sayings.Leaves node) = codes "leaves node=" ++ decimal node
saying_text (sayings.Unreached node tries) = codes "unreached node=" ++ (decimal node ++ (codes " tries=" ++ decimal tries))
saying_text (sayings.KeyDrawn index) = codes "rekey index=" ++ decimal index
saying_text (sayings.ToldToLeave node) = codes "told node=" ++ decimal node

-- a frame that came is only not acknowledged
abbrev pub given_up_word : Option Loss → List ℕ
given_up_word None = codes "unacknowledged"
given_up_word (Some loss) = codes "lost"

abbrev pub target_text : Option ℕ → List ℕ
target_text None = []
target_text (Some node) = codes " to=" ++ decimal node

abbrev pub reason_text : Option Loss → List ℕ
reason_text None = []
reason_text (Some loss) = codes " why=" ++ loss_word loss

abbrev pub given_up_text : ℕ → ℕ → Option ℕ → Option Loss → List ℕ
given_up_text flight from to why =
    given_up_word why ++ (codes " flight=" ++ (decimal flight ++ (codes " from=" ++ (decimal from ++ (target_text to ++ reason_text why)))))

-- the text of a remark, after its time
unfoldable pub remark_text : Remark → List ℕ
remark_text (remarks.Line meters seed) = codes "line meters=" ++ (decimal meters ++ (codes " seed=" ++ decimal seed))
remark_text (remarks.Spare node) = codes "spare node=" ++ decimal node
remark_text (remarks.Try node round tries) =
    codes "try node=" ++ (decimal node ++ (codes " reading=" ++ (decimal round ++ (codes " k=" ++ decimal tries))))
remark_text (remarks.GivenUp flight from to why) = given_up_text flight from to why
remark_text (remarks.Dropped flight node) = codes "dropped flight=" ++ (decimal flight ++ (codes " node=" ++ decimal node))
remark_text (remarks.Power node seconds frames) =
    codes "power node=" ++ (decimal node ++ (codes " for=" ++ (decimal seconds ++ (codes " frames=" ++ decimal frames))))
remark_text (remarks.Noise seconds) = codes "noise for=" ++ decimal seconds
remark_text (remarks.Link one other seconds) =
    codes "link a=" ++ (decimal one ++ (codes " b=" ++ (decimal other ++ (codes " for=" ++ decimal seconds))))
remark_text (remarks.Release node frames) = codes "release node=" ++ (decimal node ++ (codes " frames=" ++ decimal frames))
remark_text (remarks.Said saying) = saying_text saying
remark_text remarks.Limit = codes "limit"

-- the remark that a script begins with
abbrev pub title_text : List ℕ → List ℕ
title_text title = codes "title " ++ title
