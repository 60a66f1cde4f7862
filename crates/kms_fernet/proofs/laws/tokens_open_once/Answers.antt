use Rattle.kms_fernet.proofs.Unique.{opens_once, fault_closes, one_fault}
use Rattle.kms_fernet.proofs.laws.tokens_open_once.Goals as goal

pub returns : goal.returns
returns c = record {
  sealed = λ key plain iv text moment is_key is_plain is_iv in_range is_token. record {
    moment = moment;
    iv = iv;
    moment_fits = in_range;
    iv_fits = is_iv;
    plain_fits = is_plain;
    token = is_token;
  };
  once = opens_once;
  faulty = fault_closes;
  one_fault = one_fault;
}
