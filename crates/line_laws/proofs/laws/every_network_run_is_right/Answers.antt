-- Each law, for the network's ciphers, which keep the ranges, and its flights, which are octets.
use Rattle.node_rules.specs.Ciphers.{network}
use Rattle.line_laws.proofs.AdmittedRight.{every_admission}
use Rattle.line_laws.proofs.AgreedRight.{every_agreement}
use Rattle.line_laws.proofs.CheckedRight.{every_check}
use Rattle.line_laws.proofs.FurtherLoops.{every_run as loop_free}
use Rattle.line_laws.proofs.FurtherOctets.{every_flight}
use Rattle.line_laws.proofs.FurtherRestarts.{every_size}
use Rattle.line_laws.proofs.FurtherStates.{every_issued_right}
use Rattle.line_laws.proofs.FurtherUps.{every_up}
use Rattle.line_laws.proofs.KeyedRuns.{every_address, every_fall, every_joining, every_nonce, only_issued}
use Rattle.line_laws.proofs.HoldsRuns.{every_run_throughout}
use Rattle.line_laws.proofs.KickRuns.{every_kick, every_shut_out}
use Rattle.line_laws.proofs.LawRuns.{every_key_own, every_count, every_counter, every_forgery, every_mark, every_restart, every_store, every_restart_ends}
use Rattle.line_laws.proofs.LawRuns.{every_send}
use Rattle.line_laws.proofs.LawRuns.{every_sender, every_spelling, every_tag, every_trace}
use Rattle.line_laws.proofs.OnceRuns.{every_frame, every_node}
use Rattle.line_laws.proofs.ReachHistory.{every_history}
use Rattle.line_laws.proofs.ReachLogs.{every_log}
use Rattle.line_laws.proofs.ReachRuns.{every_broadcast, every_walk}
use Rattle.line_laws.proofs.ReachReported.{every_list, every_reported}
use Rattle.line_laws.proofs.StorableGrants.{network_ranges}
use Rattle.line_laws.proofs.SafeRun.{every_safe}
use Rattle.line_laws.proofs.StepsTaken.{every_step}
use Rattle.line_laws.proofs.laws.every_network_run_is_right.Goals as goal

pub returns : goal.returns
returns c = λ entries run. record {
  octets = every_flight entries run;
  sized = every_size entries run;
  readable = every_store network network_ranges entries run (every_flight entries run);
  answered = every_restart network network_ranges entries run (every_flight entries run);
  ends = every_restart_ends entries run;
  rises = every_counter network network_ranges entries run (every_flight entries run);
  spelled = every_spelling network network_ranges entries run (every_flight entries run);
  senders = every_sender network network_ranges entries run (every_flight entries run);
  own = every_key_own entries run;
  apart = every_address network network_ranges entries run (every_flight entries run);
  nonces = every_nonce network network_ranges entries run (every_flight entries run);
  marks = every_mark network network_ranges entries run (every_flight entries run);
  falls = every_fall network network_ranges entries run (every_flight entries run);
  once = every_node network network_ranges entries run (every_flight entries run);
  alone = every_frame network network_ranges entries run (every_flight entries run);
  agrees = every_joining network network_ranges entries run (every_flight entries run);
  said = every_agreement network network_ranges entries run (every_flight entries run);
  keys = only_issued network network_ranges entries run (every_flight entries run);
  issued = every_issued_right entries run;
  kicked = every_kick entries run;
  shut = every_shut_out entries run;
  routes = loop_free entries run;
  counted = every_count network entries run;
  traced = every_trace network entries run;
  admitted = every_admission network entries run;
  tags = every_tag network network_ranges entries run (every_flight entries run);
  some = every_send network entries run;
  ups = every_up entries run;
  safe = every_safe entries run;
  forged = every_forgery network entries run;
  histories = every_history entries run;
  logs = every_log entries run;
  broadcasts = every_broadcast entries run;
  walks = every_walk entries run;
  reported = every_reported entries run;
  listed = every_list entries run;
  checked = every_check entries run;
  steps = every_step entries run;
  throughout = every_run_throughout entries run;
}
