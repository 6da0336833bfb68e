-- The laws, side by side.
use Rattle.run_laws.proofs.laws.every_run_is_lawful.Goals as goal

pub returns : goal.returns
returns c entries run = record {
  chosen = c.every_choice_is_right.ensures entries run;
  beside = c.tables_beside_keep_their_sizes.ensures entries run;
  datagrams = c.every_datagram_is_moved.ensures entries run;
  places = c.every_octet_is_at_one_place.ensures entries run;
  fates = c.every_send_has_a_fate.ensures entries run;
  grants = c.every_joining_agrees_on_its_grant.ensures entries run;
  own = c.every_joining_is_its_own.ensures entries run;
  one = c.every_fate_is_at_one_place.ensures entries run;
}
