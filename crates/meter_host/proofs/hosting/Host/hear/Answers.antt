use Rattle.meter_host.proofs.hosting.Host.hear.Goals as goal

pub returns : goal.returns
returns c =
    rw (← c.self.view_is) (record {
      answer = c.receive-heard.result;
      ended = c.ended.ensures;
      received = c.receive-heard.ensures.received;
      same_psk = c.receive-heard.ensures.after.psk;
      joined = c.joined_by-given.ensures;
      handed_up = c.hand_up.ensures;
    })
